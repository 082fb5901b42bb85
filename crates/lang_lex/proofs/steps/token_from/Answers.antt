use Rattle.std.proofs.Common.{◌<◌, length, sym, ◌∙◌, arith}
use Rattle.std.proofs.lemmas.Bool.{ne_eqb, eq-eqb}
use Rattle.std.proofs.lemmas.Result.{err_from_is_err_and}
use Rattle.lang_lex.proofs.Stepped.{comment, fault, greatest, over, there, token}
use Rattle.lang_lex.proofs.steps.token_from.Goals as goal

pub returns-then-from-line-clause-first : goal.returns-then-from-line-clause-first
returns-then-from-line-clause-first c = c.after_blanks-from.ensures.same ∙ over c.after_blanks-from.result c.args.line.now (omega arith)

pub returns-then-line-from-eq35-clause-first : goal.returns-then-line-from-eq35-clause-first
returns-then-line-from-eq35-clause-first c =
    let inside : c.after_blanks-from.result < length c.args.line.now = omega arith in
    c.after_blanks-from.ensures.same ∙ comment c.after_blanks-from.result c.args.line.now inside (c.after_blanks-from.ensures.stops inside) (eq-eqb _ _ c.if-line-from-eq35.true)

pub returns-in_err-kind-clause-fault : goal.returns-in_err-kind-clause-fault
returns-in_err-kind-clause-fault c =
    let p = err_from_is_err_and c.from_residual.result c.from_residual.ensures.1 in
    let inside : c.after_blanks-from.result < length c.args.line.now = omega arith in
    rw (p.1, p.2) (c.after_blanks-from.ensures.same ∙ fault c.after_blanks-from.result c.args.line.now inside c.in_err-kind.field-0.0 (c.after_blanks-from.ensures.stops inside) (ne_eqb _ _ c.if-line-from-eq35.false) (rw c.bytes_from.ensures at (sym c.in_err-kind.ensures.gives)))

pub returns-clause-first : goal.returns-clause-first
returns-clause-first c =
    let inside : c.after_blanks-from.result < length c.args.line.now = omega arith in
    c.after_blanks-from.ensures.same ∙ token c.after_blanks-from.result c.args.line.now inside c.in_ok-kind.kind c.in_ok-kind.width (c.after_blanks-from.ensures.stops inside) (ne_eqb _ _ c.if-line-from-eq35.false) (rw c.bytes_from.ensures at (sym c.in_ok-kind.ensures.gives)) c.in_ok-kind.ensures.within.0 (rw c.bytes_from.ensures at c.in_ok-kind.ensures.within.1)

pub returns-clause-spelled : goal.returns-clause-spelled
returns-clause-spelled c =
    let inside : c.after_blanks-from.result < length c.args.line.now = omega arith in
    there c.after_blanks-from.result c.args.line.now inside c.in_ok-kind.kind c.in_ok-kind.width (rw c.bytes_from.ensures at (sym c.in_ok-kind.ensures.gives)) c.in_ok-kind.ensures.within.0 (rw c.bytes_from.ensures at c.in_ok-kind.ensures.within.1)

pub returns-clause-longest : goal.returns-clause-longest
returns-clause-longest c =
    let inside : c.after_blanks-from.result < length c.args.line.now = omega arith in
    greatest c.after_blanks-from.result c.args.line.now inside c.in_ok-kind.kind c.in_ok-kind.width (rw c.bytes_from.ensures at (sym c.in_ok-kind.ensures.gives))
