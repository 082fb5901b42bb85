use Rattle.std.proofs.Common.{◌≡◌, ℕ, ◌+◌, List, drop}
use Rattle.def_machine.specs.Serial.{first_stop}
use Rattle.def_chase.specs.Mappings.{Rule}
use Rattle.def_steps.specs.Chase.{caused_chase}
use Rattle.core_queue.specs.Queues.{updates_of, AreFrom}
use Rattle.core_result.proofs.stops.stop.Given as goal

-- The first stop of those that are left is that of all.
abbrev pub invariant-loop-queued : goal.invariant-loop-queued
invariant-loop-queued l = record {
  from : AreFrom (l.queued-index + 1) (drop l.queued-index l.queue);
  same : (ms : List Rule) (B : ℕ) → first_stop (caused_chase ms B) (l.queued-index + 1) (updates_of ms B (drop l.queued-index l.queue)) ≡ first_stop (caused_chase ms B) 1 (updates_of ms B l.queue);
}
