use Rattle.std.proofs.Common.{◌≡◌, ◌≤◌, length}
use Rattle.std.specs.Prelude.{min}
use Rattle.std.specs.Cmp.Lexicographic.{slice_cmp}
use Rattle.std.proofs.cmp.SliceLoops.{Rest}
use Rattle.base_types.proofs.orders.order_in_turn.Given as goal

-- What the parts from here on answer, the slices answer.
abbrev pub invariant-loop-i : goal.invariant-loop-i
invariant-loop-i g l = record {
  end : l.i-end ≡ min (length l.items) (length l.others);
  within : l.i ≤ l.i-end;
  rest : Rest (slice_cmp g.T.Ord.cmp) l.items l.others l.i;
}
