use Rattle.std.proofs.Common.{◌∙◌, ap}
use Rattle.core_engine.specs.States.{lowest_deliverable_at}
use Rattle.work_session.proofs.seated.SeatedCore.lowest_waiting.Goals as goal

pub returns : goal.returns
returns c = c.lowest_deliverable.ensures.lowest ∙ ap lowest_deliverable_at c.self.view_is
