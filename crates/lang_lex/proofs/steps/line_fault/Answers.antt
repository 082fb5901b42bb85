use Rattle.std.proofs.Common.{sym, ◌∙◌, ap}
use Rattle.std.proofs.lemmas.Result.{err_from_is_err_and}
use Rattle.lang_lex.proofs.Stepped.{checked, checked_fault, told_within}
use Rattle.def_language.specs.LineTokens.{tokens_at}
use Rattle.lang_lex.proofs.steps.line_fault.Goals as goal

pub returns-in_err-token-clause-within : goal.returns-in_err-token-clause-within
returns-in_err-token-clause-within c =
    let p = err_from_is_err_and c.from_residual.result c.from_residual.ensures.1 in
    let e = sym c.tokens.invariant.same ∙ ap checked c.in_err-token.ensures.fault in
    rw (p.1, p.2) (told_within c.in_err-token.field-0.0 c.args.line.now (checked_fault c.in_err-token.field-0.0 (tokens_at 0 0 c.args.line.now) e))
