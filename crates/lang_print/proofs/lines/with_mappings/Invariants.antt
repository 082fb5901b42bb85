use Rattle.std.proofs.Common.{◌≡◌, map, take}
use Rattle.lang_schema.specs.Meanings.{session_mapping_of}
use Rattle.def_language.specs.Grammar.{statement_words}
use Rattle.lang_print.specs.Lines.{mapping_statements, with_lines}
use Rattle.lang_print.proofs.lines.with_mappings.Given as goal

abbrev pub invariant-loop-mapping : goal.invariant-loop-mapping
invariant-loop-mapping l = l.page ≡ with_lines statement_words l.initial.page (mapping_statements l.schema (map session_mapping_of (take l.mapping-index l.mappings)))
