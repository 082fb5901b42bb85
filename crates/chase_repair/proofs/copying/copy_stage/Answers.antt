use Rattle.std.proofs.Common.{rules, subst, sym}
use Rattle.chase_repair.specs.Stages.{IsSound, IsUnified, IsWaited}
use Rattle.chase_repair.proofs.Copied.{waited_same, united_same}
use Rattle.chase_repair.proofs.copying.copy_stage.Goals as goal

pub returns-in_ok-boxed-in-Waiting-clause-sound : goal.returns-in_ok-boxed-in-Waiting-clause-sound
returns-in_ok-boxed-in-Waiting-clause-sound c = λ g h.
    let copy = c.in_ok-copy-in-Waiting in
    subst (IsWaited g.mapping) (sym c.in_ok-boxed-in-Waiting.ensures.same)
    (waited_same g.mapping copy.field-0 c.in-Waiting.question.value (search rules) (subst (IsSound g) c.in-Waiting.is h))

pub returns-in_ok-gathered-in-Unifying-clause-sound : goal.returns-in_ok-gathered-in-Unifying-clause-sound
returns-in_ok-gathered-in-Unifying-clause-sound c = λ g h.
    let copy = c.in_ok-copy-in-Unifying in
    subst (IsUnified g.mapping) (sym c.in_ok-asked-in-Unifying.ensures.same)
    (united_same g.mapping copy.field-0 c.in-Unifying.question.value (search rules) (subst (IsSound g) c.in-Unifying.is h))
