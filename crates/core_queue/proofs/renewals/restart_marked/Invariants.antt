use Rattle.std.proofs.Common.{◌≡◌, ℕ, suc, ◌++◌, List, map, length, take, drop}
use Rattle.std.specs.Prelude.{is_some}
use Rattle.std.specs.Vec.Iter.{into_iter_items, into_iter_len}
use Rattle.def_chase.specs.Mappings.{Rule}
use Rattle.def_steps.specs.Chase.{caused_chase}
use Rattle.core_queue.specs.Queues.{updates_of, AreFrom}
use Rattle.core_queue.specs.Renewals.{AreFresh}
use Rattle.core_queue.proofs.Restarting.{restart_by}
use Rattle.core_queue.proofs.renewals.restart_marked.Given as goal

abbrev pub invariant-loop-program : goal.invariant-loop-program
invariant-loop-program l = record {
  from : AreFrom 1 l.queue;
  fresh : AreFresh (drop l.place l.queue) (into_iter_items l.program-iterator);
  long : into_iter_len l.program-iterator ≡ length (into_iter_items l.program-iterator);
  done : (ms : List Rule) (B : ℕ)
      → take l.place (updates_of ms B l.queue) ++ restart_by (caused_chase ms B) (suc l.place) (map is_some (into_iter_items l.program-iterator)) (drop l.place (updates_of ms B l.queue))
      ≡ take l.from (updates_of ms B l.initial.queue) ++ restart_by (caused_chase ms B) (suc l.from) (map is_some l.fn.fresh.items) (drop l.from (updates_of ms B l.initial.queue));
}
