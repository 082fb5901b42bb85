use Rattle.std.proofs.Common.{◌≡◌, ◌++◌, map}
use Rattle.base_types.specs.Meanings.{datum_of}
use Rattle.chase_repair.specs.Nulls.{drawn_from}
use Rattle.chase_repair.proofs.fresh.draw.Given as goal

-- So many nulls are drawn.
abbrev pub invariant-loop-number : goal.invariant-loop-number
invariant-loop-number l = map datum_of l.values.items ≡ map datum_of l.fn.values.items ++ drawn_from l.fresh l.number
