use Rattle.std.proofs.Common.{◌∙◌, ap, map}
use Rattle.def_chase.specs.Values.{null_cmp}
use Rattle.base_types.specs.Meanings.{null_of}
use Rattle.lang_report.proofs.Ranks.{insert_meant}
use Rattle.lang_report.proofs.renaming.note_value.Goals as goal

pub returns-in_ok-insert-in-Null : goal.returns-in_ok-insert-in-Null
returns-in_ok-insert-in-Null c = rw c.in-Null.is (ap (map null_of) c.in_ok-insert-in-Null.ensures.keys ∙ insert_meant null_of null_cmp c.args.nulls.now.keys c.in-Null.null)
