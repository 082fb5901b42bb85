use Rattle.std.proofs.Common.{◌≡◌, map, take}
use Rattle.base_types.specs.Meanings.{fact_of}
use Rattle.def_language.specs.Grammar.{statement_words}
use Rattle.lang_print.specs.Lines.{base_statements, with_lines}
use Rattle.lang_print.proofs.lines.with_base.Given as goal

abbrev pub invariant-loop-tuple : goal.invariant-loop-tuple
invariant-loop-tuple l = l.page ≡ with_lines statement_words l.initial.page (base_statements l.schema (map fact_of (take l.tuple-index l.tuples)))
