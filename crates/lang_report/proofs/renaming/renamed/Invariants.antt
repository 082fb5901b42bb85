use Rattle.std.proofs.Common.{◌≡◌, map, take}
use Rattle.base_types.specs.Meanings.{fact_of, null_of}
use Rattle.lang_report.specs.Saved.{base_fact}
use Rattle.lang_report.proofs.renaming.renamed.Given as goal

abbrev pub invariant-loop-tuple : goal.invariant-loop-tuple
invariant-loop-tuple l = map fact_of l.base.items ≡ map (base_fact (map null_of l.nulls)) (map fact_of (take l.tuple-index l.tuples))
