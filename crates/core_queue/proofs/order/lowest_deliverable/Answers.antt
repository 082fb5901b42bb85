use Rattle.std.proofs.Common.{◌∙◌, ap, ℕ}
use Rattle.def_machine.specs.Standings.{is_deliverable, lowest_that}
use Rattle.def_steps.specs.Chase.{caused_chase}
use Rattle.core_queue.specs.Settings.{settings_of}
use Rattle.core_queue.specs.Queues.{updates_of}
use Rattle.core_queue.proofs.Walking.{commits_so, deliverable_after, rest_from}
use Rattle.core_queue.proofs.order.lowest_deliverable.Goals as goal

pub after-requires : goal.after-requires
after-requires c = record { first = commits_so c.args.queue.now c.committed_from-committed.result c.committed_from-committed.ensures.committed }

pub first_deliverable-requires : goal.first_deliverable-requires
first_deliverable-requires c = record { from = rest_from c.args.queue.now c.after.result.now c.committed_from-committed.result (commits_so c.args.queue.now c.committed_from-committed.result c.committed_from-committed.ensures.committed) c.requires.from c.after.ensures.rest }

pub returns : goal.returns
returns c = record {
  lowest = λ ms B. deliverable_after (settings_of c.args.settings) c.args.queue.now c.after.result.now c.committed_from-committed.result c.first_deliverable.result c.committed_from-committed.ensures.committed c.after.ensures.rest c.first_deliverable.ensures.first ms B ∙ ap (λ (k : ℕ). lowest_that {M = caused_chase ms B} (λ i u. is_deliverable (caused_chase ms B) (settings_of c.args.settings) k i u) 1 (updates_of ms B c.args.queue.now)) (c.committed_from-committed.ensures.committed ms B);
}
