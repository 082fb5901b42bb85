use Rattle.std.proofs.Common.{◌≡◌, [], map, take}
use Rattle.std.specs.Prelude.{flat_map, fold}
use Rattle.std.specs.BTreeSet.{insert_key}
use Rattle.def_chase.specs.Values.{null_cmp}
use Rattle.base_types.specs.Meanings.{fact_of, null_of}
use Rattle.lang_report.specs.Saved.{nulls_in}
use Rattle.lang_report.proofs.renaming.different_nulls.Given as goal

abbrev pub invariant-loop-tuple : goal.invariant-loop-tuple
invariant-loop-tuple l = map null_of l.nulls.keys ≡ fold (insert_key null_cmp) [] (flat_map nulls_in (map fact_of (take l.tuple-index l.tuples)))
