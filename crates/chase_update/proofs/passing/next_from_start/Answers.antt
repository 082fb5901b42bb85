use Rattle.std.proofs.Common.{◌∙◌, suc, arith, ap}
use Rattle.base_types.specs.Meanings.{rule_of}
use Rattle.def_steps.specs.Steps.{look_from}
use Rattle.chase_update.proofs.PassedBy.{here, looks_at}
use Rattle.chase_update.proofs.passing.next_from_start.Goals as goal

pub returns-then-mapping-eq0-clause-look : goal.returns-then-mapping-eq0-clause-look
returns-then-mapping-eq0-clause-look c =
    let ms = c.args.mappings.now in
    let k = c.in-Some.place in
    let m = rule_of c.in-Some.mapping.now in
    λ P e. looks_at P ms k m c.if-mapping-eq0.true c.in-Some.ensures.found
    ∙ (ap (look_from P k) (here ms k (suc k) m (omega arith) c.in-Some.ensures.found) ∙ c.in-Some.ensures.passed P e)
