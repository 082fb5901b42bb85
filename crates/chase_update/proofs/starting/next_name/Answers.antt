use Rattle.std.proofs.Common.{◌∙◌, ◌+◌, ap, map, drop, arith}
use Rattle.std.proofs.lemmas.Result.{IfOk-weaker}
use Rattle.base_types.specs.Meanings.{null_of, operation_of}
use Rattle.chase_update.specs.RowMeanings.{naming_of, resolved_of}
use Rattle.chase_update.specs.Rows.{named, present, row_tree}
use Rattle.chase_update.proofs.Namings.{one_name, no_names, next_names}
use Rattle.chase_update.proofs.starting.next_name.Goals as goal

pub returns-in_ok-boxed-in-Some-clause-value : goal.returns-in_ok-boxed-in-Some-clause-value
returns-in_ok-boxed-in-Some-clause-value c =
    let op = operation_of c.args.operation.now in
    let found = map resolved_of c.args.found.items in
    let n = null_of c.in-Some.name.now in
    λ ms P e. (λ i. row_tree ms P (naming_of (c.in_ok-boxed-in-Some.ensures.same i))) ∙ one_name ms P op found n (map null_of (drop (c.args.next + 1) c.args.names.items)) e ∙ ap (named op found) (next_names c.args.names.items c.args.next (c.args.next + 1) c.in-Some.name.now (omega arith) c.in-Some.ensures.item)

pub returns-in-None-clause-value : goal.returns-in-None-clause-value
returns-in-None-clause-value c =
    let op = operation_of c.args.operation.now in
    IfOk-weaker c.present.result _ _
    (λ turn h ms P e. h ms P e ∙ (ap (λ fs. present op (map resolved_of fs)) c.as_slice.ensures.items ∙ no_names op (map resolved_of c.args.found.items) c.args.names.items c.args.next c.in-None.ensures.item))
    c.present.ensures.value
