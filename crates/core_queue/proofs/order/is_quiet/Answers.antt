use Rattle.std.proofs.Common.{◌∙◌, ap, ℕ}
use Rattle.std.specs.Prelude.{is_none}
use Rattle.def_machine.specs.Standings.{standing, is_ready, is_deliverable, lowest_that}
use Rattle.def_steps.specs.Chase.{caused_chase}
use Rattle.core_queue.specs.Settings.{settings_of}
use Rattle.core_queue.specs.Queues.{updates_of}
use Rattle.core_queue.proofs.Deciding.{both, neither}
use Rattle.core_queue.proofs.Walking.{rest_from, commits_so, ready_after, deliverable_after}
use Rattle.core_queue.proofs.order.is_quiet.Goals as goal

pub after-rest-requires : goal.after-rest-requires
after-rest-requires c = record { first = commits_so c.args.queue.now c.committed_from-committed.result c.committed_from-committed.ensures.committed }

pub first_ready-requires : goal.first_ready-requires
first_ready-requires c = record { from = rest_from c.args.queue.now c.after-rest.result.now c.committed_from-committed.result (commits_so c.args.queue.now c.committed_from-committed.result c.committed_from-committed.ensures.committed) c.requires.from c.after-rest.ensures.rest }

pub first_deliverable-requires : goal.first_deliverable-requires
first_deliverable-requires c = record { from = rest_from c.args.queue.now c.after-rest.result.now c.committed_from-committed.result (commits_so c.args.queue.now c.committed_from-committed.result c.committed_from-committed.ensures.committed) c.requires.from c.after-rest.ensures.rest }

pub returns-then-none_ready : goal.returns-then-none_ready
returns-then-none_ready c = record {
  quiet = λ ms B. both c.is_none-none_ready.result _ _ _ c.if-none_ready.true
      (c.is_none-none_ready.ensures.none ∙ ap is_none (ready_after (settings_of c.args.settings) c.args.queue.now c.after-rest.result.now c.committed_from-committed.result c.first_ready.result c.committed_from-committed.ensures.committed c.after-rest.ensures.rest c.first_ready.ensures.first ms B ∙ ap (λ (k : ℕ). lowest_that {M = caused_chase ms B} (λ i u. is_ready (standing (caused_chase ms B) (settings_of c.args.settings) k i u)) 1 (updates_of ms B c.args.queue.now)) (c.committed_from-committed.ensures.committed ms B)))
      (c.is_none-none_deliverable.ensures.none ∙ ap is_none (deliverable_after (settings_of c.args.settings) c.args.queue.now c.after-rest.result.now c.committed_from-committed.result c.first_deliverable.result c.committed_from-committed.ensures.committed c.after-rest.ensures.rest c.first_deliverable.ensures.first ms B ∙ ap (λ (k : ℕ). lowest_that {M = caused_chase ms B} (λ i u. is_deliverable (caused_chase ms B) (settings_of c.args.settings) k i u) 1 (updates_of ms B c.args.queue.now)) (c.committed_from-committed.ensures.committed ms B)));
}

pub returns-else-none_ready : goal.returns-else-none_ready
returns-else-none_ready c = record {
  quiet = λ ms B. neither c.is_none-none_ready.result _ _ c.if-none_ready.false
      (c.is_none-none_ready.ensures.none ∙ ap is_none (ready_after (settings_of c.args.settings) c.args.queue.now c.after-rest.result.now c.committed_from-committed.result c.first_ready.result c.committed_from-committed.ensures.committed c.after-rest.ensures.rest c.first_ready.ensures.first ms B ∙ ap (λ (k : ℕ). lowest_that {M = caused_chase ms B} (λ i u. is_ready (standing (caused_chase ms B) (settings_of c.args.settings) k i u)) 1 (updates_of ms B c.args.queue.now)) (c.committed_from-committed.ensures.committed ms B)));
}
