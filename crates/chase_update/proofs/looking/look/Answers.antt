use Rattle.std.proofs.Common.{◌∙◌, ◌≤◌, suc, arith, ap}
use Rattle.std.proofs.lemmas.Result.{IfOk-weaker}
use Rattle.base_types.specs.Meanings.{rule_of}
use Rattle.def_steps.specs.Steps.{look_from}
use Rattle.chase_update.proofs.PassedBy.{here}
use Rattle.chase_update.proofs.looking.look.Goals as goal

pub returns-in-Some-clause-value : goal.returns-in-Some-clause-value
returns-in-Some-clause-value c =
    let ms = c.args.mappings.now in
    let k = c.in-Some.place in
    let m = rule_of c.in-Some.mapping.now in
    IfOk-weaker c.look_at.result _ _
    (λ turn h P e. let since : c.in-Some.mapping.now.since ≤ P.number = omega (arith, c.in-Some.ensures.since) in
    h ms P since c.in-Some.ensures.found ∙ (ap (look_from P k) (here ms k (suc k) m (omega arith) c.in-Some.ensures.found) ∙ c.in-Some.ensures.passed P e))
    c.look_at.ensures.value
