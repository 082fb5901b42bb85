use Rattle.std.proofs.Common.{◌≡◌, map, take}
use Rattle.lang_schema.specs.Meanings.{session_mapping_of}
use Rattle.chase_update.specs.Results.{finish_of}
use Rattle.lang_report.specs.Saved.{saved_mappings}
use Rattle.lang_report.proofs.saving.saved_mappings.Given as goal

abbrev pub invariant-loop-mapping : goal.invariant-loop-mapping
invariant-loop-mapping l = map session_mapping_of l.kept.items ≡ saved_mappings (map finish_of l.finishes) (map session_mapping_of (take l.mapping-index l.mappings))
