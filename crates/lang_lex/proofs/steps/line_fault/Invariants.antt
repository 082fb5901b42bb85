use Rattle.std.proofs.Common.{◌≡◌, ◌≤◌, ◌-◌, length}
use Rattle.def_language.specs.LineTokens.{tokens_from}
use Rattle.lang_lex.proofs.Stepped.{checked}
use Rattle.lang_lex.proofs.steps.line_fault.Given as goal

abbrev pub invariant-tokens : goal.invariant-tokens
invariant-tokens l = record { same : checked (tokens_from l.place l.line) ≡ checked (tokens_from 0 l.line); within : l.place ≤ length l.line }

abbrev pub decreases-tokens : goal.decreases-tokens
decreases-tokens l = length l.line - l.place
