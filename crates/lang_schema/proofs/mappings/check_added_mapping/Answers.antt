use Rattle.std.specs.Prelude.{Result}
use Rattle.std.proofs.lemmas.Result.{err_from_is_err_and}
use Rattle.std.proofs.Common.{subst}
use Rattle.def_language.specs.Faults.{Kind}
use Rattle.def_language.specs.Sessions.{SessionMapping}
use Rattle.lang_schema.specs.Answers.{Gives}
use Rattle.lang_schema.specs.Meanings.{mapping_written, session_mapping_of}
use Rattle.lang_schema.proofs.Fitted.{sides_refused, left_refused, right_refused, then_over}
use Rattle.lang_schema.proofs.mappings.check_added_mapping.Goals as goal

pub returns-in_err-sides_fit : goal.returns-in_err-sides_fit
returns-in_err-sides_fit c =
    let p = err_from_is_err_and c.from_residual.result c.from_residual.ensures.1 in
    record { checked = rw (p.1, p.2) (sides_refused c.in_err-sides_fit.field-0.0 c.args.schema.now c.args.since (mapping_written c.args.left.now c.args.right.now) c.in_err-sides_fit.ensures) }

pub returns-in_err-atoms_fit : goal.returns-in_err-atoms_fit
returns-in_err-atoms_fit c =
    let p = err_from_is_err_and c.from_residual-in_err-atoms_fit.result c.from_residual-in_err-atoms_fit.ensures.1 in
    record { checked = rw (p.1, p.2) (left_refused c.in_err-atoms_fit.field-0.0 c.args.schema.now c.args.since (mapping_written c.args.left.now c.args.right.now) c.in_ok-sides_fit.ensures (rw c.as_slice.ensures.items at c.in_err-atoms_fit.ensures)) }

pub returns-in_err-atoms_fit-2 : goal.returns-in_err-atoms_fit-2
returns-in_err-atoms_fit-2 c =
    let p = err_from_is_err_and c.from_residual-in_err-atoms_fit-2.result c.from_residual-in_err-atoms_fit-2.ensures.1 in
    record { checked = rw (p.1, p.2) (right_refused c.in_err-atoms_fit-2.field-0.0 c.args.schema.now c.args.since (mapping_written c.args.left.now c.args.right.now) c.in_ok-sides_fit.ensures (rw c.as_slice.ensures.items at c.in_ok-atoms_fit.ensures) (rw c.as_slice-2.ensures.items at c.in_err-atoms_fit-2.ensures)) }

pub returns : goal.returns
returns c = record { checked = subst (λ (r : Result SessionMapping Kind). Gives session_mapping_of c.mapping_over.result r) (then_over c.args.schema.now c.args.since (mapping_written c.args.left.now c.args.right.now) c.in_ok-sides_fit.ensures) c.mapping_over.ensures }
