use Rattle.std.proofs.Common.{◌≡◌, map, take}
use Rattle.def_language.specs.Grammar.{statement_words}
use Rattle.lang_print.specs.Lines.{relation_statement, with_lines}
use Rattle.lang_print.proofs.lines.with_relations.Given as goal

abbrev pub invariant-loop-number : goal.invariant-loop-number
invariant-loop-number l = l.page ≡ with_lines statement_words l.initial.page (map relation_statement (take l.number l.schema))
