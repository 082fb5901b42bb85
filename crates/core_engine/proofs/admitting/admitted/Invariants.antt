use Rattle.std.proofs.Common.{◌≡◌, ℕ, suc, ◌++◌, List, drop, length}
use Rattle.def_chase.specs.Mappings.{Rule}
use Rattle.def_steps.specs.Chase.{caused_chase}
use Rattle.core_queue.specs.Queues.{updates_of, AreFrom}
use Rattle.core_engine.specs.Admitted.{admitted_from, handed_in}
use Rattle.core_engine.proofs.admitting.admitted.Given as goal

abbrev pub invariant-loop-update : goal.invariant-loop-update
invariant-loop-update l = record {
  number : l.number ≡ suc (length l.queue.items);
  long : length l.queue.items ≡ l.update-index;
  from : AreFrom 1 l.queue.items;
  done : (ms : List Rule) (B : ℕ)
      → updates_of ms B l.queue.items ++ admitted_from (caused_chase ms B) l.number (handed_in ms B (drop l.update-index l.updates))
      ≡ admitted_from (caused_chase ms B) 1 (handed_in ms B l.updates);
}
