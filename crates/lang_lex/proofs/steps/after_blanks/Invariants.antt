use Rattle.std.proofs.Common.{◌≡◌}
use Rattle.def_language.specs.LineTokens.{tokens_from}
use Rattle.lang_lex.proofs.steps.after_blanks.Given as goal

abbrev pub invariant-loop-from : goal.invariant-loop-from
invariant-loop-from l = tokens_from l.place l.line ≡ tokens_from l.from l.line
