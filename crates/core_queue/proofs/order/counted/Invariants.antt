use Rattle.std.proofs.Common.{◌≡◌, ℕ, suc, ◌+◌, List, drop}
use Rattle.def_machine.specs.Updates.{committed}
use Rattle.def_chase.specs.Mappings.{Rule}
use Rattle.def_steps.specs.Chase.{caused_chase}
use Rattle.core_queue.specs.Queues.{updates_of, AreFrom}
use Rattle.core_queue.proofs.order.counted.Given as goal

abbrev pub invariant-loop-queued : goal.invariant-loop-queued
invariant-loop-queued l = record {
  from : AreFrom (suc l.count) (drop l.queued-index l.rest);
  left : (ms : List Rule) (B : ℕ) → l.count + committed (caused_chase ms B) (updates_of ms B (drop l.queued-index l.rest)) ≡ l.committed + committed (caused_chase ms B) (updates_of ms B l.rest);
}
