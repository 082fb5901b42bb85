use Rattle.std.proofs.Common.{◌≡◌, ℕ, ◌+◌, ◌++◌, List, drop, map}
use Rattle.def_chase.specs.Mappings.{Rule}
use Rattle.chase_update.specs.Results.{finish_of}
use Rattle.core_queue.specs.Queues.{updates_of, AreFrom}
use Rattle.core_result.specs.Told.{finishes_told}
use Rattle.core_result.proofs.finishes.finishes.Given as goal

-- What is told so far and of those that are left is what is told of all.
abbrev pub invariant-loop-queued : goal.invariant-loop-queued
invariant-loop-queued l = record {
  from : AreFrom (l.queued-index + 1) (drop l.queued-index l.queue);
  told : (ms : List Rule) (B : ℕ) → map finish_of l.finishes.items ++ finishes_told ms B (l.queued-index + 1) (updates_of ms B (drop l.queued-index l.queue)) ≡ finishes_told ms B 1 (updates_of ms B l.queue);
}
