use Rattle.std.proofs.Common.{◌≡◌, ℕ, ◌&&◌, not, false, slice_index_or, take}
use Rattle.chase_eval.specs.Touching.{is_among}
use Rattle.chase_eval.proofs.settled.Settled.unsettle_all.Given as goal

-- The mappings that were gone over have no mark, and the others what they had.
abbrev pub invariant-loop-number : goal.invariant-loop-number
invariant-loop-number l = (n : ℕ) → slice_index_or l.self n false ≡ (slice_index_or l.fn.self n false && not (is_among (take l.number-index l.numbers) n))
