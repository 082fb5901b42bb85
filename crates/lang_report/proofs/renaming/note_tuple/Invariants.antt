use Rattle.std.proofs.Common.{◌≡◌, map, take}
use Rattle.std.specs.Prelude.{flat_map, fold}
use Rattle.std.specs.BTreeSet.{insert_key}
use Rattle.def_chase.specs.Values.{null_cmp}
use Rattle.base_types.specs.Meanings.{datum_of, null_of}
use Rattle.lang_report.specs.Saved.{null_in}
use Rattle.lang_report.proofs.renaming.note_tuple.Given as goal

abbrev pub invariant-loop-value : goal.invariant-loop-value
invariant-loop-value l = map null_of l.nulls.keys ≡ fold (insert_key null_cmp) (map null_of l.initial.nulls.keys) (flat_map null_in (map datum_of (take l.value-index l.values)))
