use Rattle.std.proofs.Common.{◌≡◌, ℕ, ◌&&◌, not, false, slice_index_or, ◌<◌, ◌≤◌, map}
use Rattle.std.specs.List.{slice_get}
use Rattle.base_types.specs.Meanings.{change_of, rule_of}
use Rattle.chase_eval.specs.Watched.{touches}
use Rattle.chase_eval.proofs.settled.Settled.stir_touched.Given as goal

-- The marks that were passed are stirred, and the others are as they were.
abbrev pub invariant-loop-number : goal.invariant-loop-number
invariant-loop-number l = record {
  passed : (n : ℕ) → n < l.number → slice_index_or l.self n false ≡ (slice_index_or l.fn.self n false && not (touches (change_of l.write) (slice_get (map rule_of l.mappings.items) n)));
  others : (n : ℕ) → l.number ≤ n → slice_index_or l.self n false ≡ slice_index_or l.fn.self n false;
}
