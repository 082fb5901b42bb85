use Rattle.std.proofs.Common.{◌∙◌, ap, ℕ}
use Rattle.std.specs.Prelude.{is_none}
use Rattle.def_machine.specs.Standings.{standing, is_ready, is_deliverable, lowest_that}
use Rattle.def_steps.specs.Chase.{caused_chase}
use Rattle.audit_updates.specs.Settings.{settings_of}
use Rattle.audit_updates.specs.Updates.{updates_of}
use Rattle.audit_updates.proofs.Deciding.{both, neither}
use Rattle.audit_updates.proofs.order.is_quiet.Goals as goal

pub returns-then-none_ready : goal.returns-then-none_ready
returns-then-none_ready c = record {
  quiet = λ ms B. both c.is_none-none_ready.result _ _ _ c.if-none_ready.true
      (c.is_none-none_ready.ensures.none ∙ ap is_none (c.first_ready.ensures.first ms B ∙ ap (λ (k : ℕ). lowest_that {M = caused_chase ms B} (λ i u. is_ready (standing (caused_chase ms B) (settings_of c.args.settings) k i u)) 1 (updates_of ms B c.args.updates.now)) (c.committed-committed.ensures.committed ms B)))
      (c.is_none-none_deliverable.ensures.none ∙ ap is_none (c.first_deliverable.ensures.first ms B ∙ ap (λ (k : ℕ). lowest_that {M = caused_chase ms B} (λ i u. is_deliverable (caused_chase ms B) (settings_of c.args.settings) k i u) 1 (updates_of ms B c.args.updates.now)) (c.committed-committed.ensures.committed ms B)));
}

pub returns-else-none_ready : goal.returns-else-none_ready
returns-else-none_ready c = record {
  quiet = λ ms B. neither c.is_none-none_ready.result _ _ c.if-none_ready.false
      (c.is_none-none_ready.ensures.none ∙ ap is_none (c.first_ready.ensures.first ms B ∙ ap (λ (k : ℕ). lowest_that {M = caused_chase ms B} (λ i u. is_ready (standing (caused_chase ms B) (settings_of c.args.settings) k i u)) 1 (updates_of ms B c.args.updates.now)) (c.committed-committed.ensures.committed ms B)));
}
