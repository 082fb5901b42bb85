use Rattle.std.proofs.Common.{◌≤◌, ℕ, suc, Bool, length, drop, map}
use Rattle.base_types.specs.Meanings.{change_of}
use Rattle.core_queue.specs.Queues.{AreFrom}
use Rattle.core_cascade.specs.Meanings.{above_of}
use Rattle.core_cascade.specs.Walks.{HasLostImpact, LooksFor, StandAbove, padded}
use Rattle.core_cascade.proofs.Turns.{Turn, all_of}
use Rattle.core_cascade.proofs.cascades.Cascade.walk.Given as goal

-- The readers that are left have their numbers in turn; what is found so far and what the walk finds of them are all.
abbrev pub invariant-loop-i : goal.invariant-loop-i
invariant-loop-i l = record {
  long : length l.found.items ≤ l.i;
  from : (n : ℕ) × AreFrom n (drop l.i l.upper);
  lost : HasLostImpact l.self.mappings.now l.lost;
  turns :
      (B : ℕ) (conflicting : Bool) → 1 ≤ B → LooksFor conflicting (map change_of l.written) → StandAbove (above_of l.self) B (map change_of l.written) l.fn.lost (suc l.self.update) l.upper
      → Turn (above_of l.self) conflicting B (map change_of l.written) (all_of (above_of l.self) conflicting B l.fn.lost l.upper) l.lost (drop l.i l.upper) (padded l.i l.found.items);
}
