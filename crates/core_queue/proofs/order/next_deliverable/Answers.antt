use Rattle.std.proofs.Common.{◌∙◌, ap, ℕ, suc, Option, Some, None}
use Rattle.std.specs.Prelude.{IfSome}
use Rattle.def_machine.specs.Standings.{is_deliverable, lowest_that}
use Rattle.def_steps.specs.Chase.{caused_chase}
use Rattle.core_queue.specs.Settings.{settings_of}
use Rattle.core_queue.specs.Queues.{updates_of}
use Rattle.core_queue.specs.Order.{IsFirstDeliverable, IsLowestDeliverable}
use Rattle.core_queue.proofs.Walking.{commits_so, deliverable_after, next_after, rest_from}
use Rattle.core_queue.proofs.order.next_deliverable.Goals as goal

pub after-requires : goal.after-requires
after-requires c = record { first = commits_so c.args.queue.now c.committed_from-committed.result c.committed_from-committed.ensures.committed }

pub deliverable_at_once-requires : goal.deliverable_at_once-requires
deliverable_at_once-requires c = record { from = rest_from c.args.queue.now c.after.result.now c.committed_from-committed.result (commits_so c.args.queue.now c.committed_from-committed.result c.committed_from-committed.ensures.committed) c.requires.from c.after.ensures.rest }

pub returns : goal.returns
returns c = record {
  next = next_after (settings_of c.args.settings) c.args.queue.now c.after.result.now c.committed_from-committed.result c.deliverable_at_once.result c.committed_from-committed.ensures.committed c.after.ensures.rest c.deliverable_at_once.ensures.next;
  lowest = by c.deliverable_at_once.result c.deliverable_at_once.ensures.first;
}
  where
    by : (o : Option ℕ) → IfSome o (λ n. IsFirstDeliverable (settings_of c.args.settings) c.committed_from-committed.result (suc c.committed_from-committed.result) c.after.result.now (Some n)) → IfSome o (λ n. IsLowestDeliverable (settings_of c.args.settings) c.args.queue.now (Some n))
    by None f = tt
    by (Some n) f = λ ms B. deliverable_after (settings_of c.args.settings) c.args.queue.now c.after.result.now c.committed_from-committed.result (Some n) c.committed_from-committed.ensures.committed c.after.ensures.rest f ms B ∙ ap (λ (k : ℕ). lowest_that {M = caused_chase ms B} (λ i u. is_deliverable (caused_chase ms B) (settings_of c.args.settings) k i u) 1 (updates_of ms B c.args.queue.now)) (c.committed_from-committed.ensures.committed ms B)
