use Rattle.std.proofs.Common.{◌≡◌, map, take}
use Rattle.base_types.specs.Meanings.{null_of, datum_of}
use Rattle.def_steps.specs.Rewriting.{nulls_in}
use Rattle.chase_repair.proofs.nulls.nulls_in.Given as goal

-- The list has the nulls of the values so far.
abbrev pub invariant-loop-value : goal.invariant-loop-value
invariant-loop-value l = map null_of l.nulls.items ≡ nulls_in (map datum_of (take l.value-index l.values))
