use Rattle.std.proofs.Common.{◌∙◌, arith, sym}
use Rattle.chase_update.proofs.PassedBy.{looks_past}
use Rattle.chase_update.proofs.passing.next_in_play.Goals as goal

pub loop-place-preserved : goal.loop-place-preserved
loop-place-preserved c = λ P e. sym (c.in_default.ensures.passed P e) ∙ c.loop-place.invariant P e

pub returns-clause-ends : goal.returns-clause-ends
returns-clause-ends c = λ P e. looks_past P c.args.mappings.now c.loop-place.place (omega arith) ∙ c.loop-place.invariant P e
