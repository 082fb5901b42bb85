use Rattle.std.proofs.Common.{◌≡◌, map, take}
use Rattle.base_types.specs.Meanings.{choice_of}
use Rattle.def_language.specs.Grammar.{statement_words}
use Rattle.lang_print.specs.Lines.{answer_statements, with_lines}
use Rattle.lang_print.proofs.lines.with_answers.Given as goal

abbrev pub invariant-loop-answer : goal.invariant-loop-answer
invariant-loop-answer l = l.page ≡ with_lines statement_words l.initial.page (answer_statements l.schema l.label.items (map choice_of (take l.answer-index l.answers)))
