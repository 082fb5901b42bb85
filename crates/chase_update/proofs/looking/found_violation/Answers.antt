use Rattle.std.proofs.Common.{◌∙◌, ◌+◌, sym, arith}
use Rattle.std.proofs.lemmas.Result.{IfOk-weaker}
use Rattle.base_types.specs.Meanings.{rule_of, operation_of, heading_of}
use Rattle.chase_query.specs.Meanings.{reply_of}
use Rattle.def_steps.specs.Steps.{image_in}
use Rattle.chase_update.specs.Rows.{look_on}
use Rattle.chase_update.proofs.Repairs.{repairs, looks_on}
use Rattle.chase_update.proofs.looking.found_violation.Goals as goal

pub returns-in-Some-clause-value : goal.returns-in-Some-clause-value
returns-in-Some-clause-value c =
    let ms = c.args.mappings.now in
    let n = c.args.place in
    let found = sym c.in-Some.ensures.item in
    IfOk-weaker c.repair.result _ _
    (λ turn h P e. h ms P e.draws ∙ repairs P ms n (rule_of c.in-Some.mapping.now) (operation_of c.args.operation.now) (heading_of c.direction.result) c.args.answer.now c.in-Image.image (look_on ms P n) found c.direction.ensures.heading e.operation c.in-Image.is)
    c.repair.ensures.value

pub returns-in-None-clause-value : goal.returns-in-None-clause-value
returns-in-None-clause-value c =
    let ms = c.args.mappings.now in
    let n = c.args.place in
    let none = sym c.in-None.ensures.item in
    IfOk-weaker c.look.result _ _
    (λ turn h P e. h P e.draws.update ∙ looks_on P ms n (n + 1) (image_in (reply_of c.args.answer.now)) (omega arith) none)
    c.look.ensures.value
