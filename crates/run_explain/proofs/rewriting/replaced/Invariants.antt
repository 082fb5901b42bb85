use Rattle.std.proofs.Common.{◌≡◌, map, take}
use Rattle.base_types.specs.Meanings.{datum_of}
use Rattle.def_steps.specs.Rewriting.{replacing}
use Rattle.run_explain.proofs.rewriting.replaced.Given as goal

-- The values so far.
abbrev pub invariant-loop-value : goal.invariant-loop-value
invariant-loop-value l = map datum_of l.values.items ≡ map (replacing (datum_of l.from) (datum_of l.to)) (map datum_of (take l.value-index l.tuple.values.items))
