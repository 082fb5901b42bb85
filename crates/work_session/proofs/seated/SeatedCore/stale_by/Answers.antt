use Rattle.std.proofs.Common.{◌∙◌}
use Rattle.work_stale.specs.Stale.{stale_by}
use Rattle.work_session.proofs.Serving.{stays_unless}
use Rattle.work_session.proofs.seated.SeatedCore.stale_by.Goals as goal

pub returns-clause-stays : goal.returns-clause-stays
returns-clause-stays c =
    stays_unless c.self.inside.core c.args.self.now c.self.view_is c.stale_by.result c.args.plan.now c.args.since c.is_legal.ensures.budget c.is_legal.ensures.sorted c.is_legal.ensures.legal
    (c.stale_by.ensures.first ∙ (λ i. stale_by (c.mappings-mappings.ensures.rules i) (c.update.ensures.update i) (c.reads.ensures.reads i) (c.history-history.ensures.history i) c.args.since))
