use Rattle.std.proofs.Common.{◌≡◌, map, take}
use Rattle.base_types.specs.Meanings.{datum_of, null_of}
use Rattle.lang_report.specs.Saved.{base_value}
use Rattle.lang_report.proofs.renaming.base_fact.Given as goal

abbrev pub invariant-loop-value : goal.invariant-loop-value
invariant-loop-value l = map datum_of l.values.items ≡ map (base_value (map null_of l.nulls)) (map datum_of (take l.value-index l.tuple.values.items))
