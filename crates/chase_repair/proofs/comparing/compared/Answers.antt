use Rattle.std.proofs.Common.{◌∙◌, refl, subst, sym}
use Rattle.std.specs.List.{list_all}
use Rattle.def_chase.specs.Specific.{more_specific}
use Rattle.chase_repair.specs.Stages.{IsWaited}
use Rattle.chase_repair.proofs.comparing.compared.Goals as goal

pub returns-in_ok-boxed-clause-sound : goal.returns-in_ok-boxed-clause-sound
returns-in_ok-boxed-clause-sound c =
    let tuple = c.in_ok-copy.ensures.same in
    let all = c.in_ok-candidates.ensures.same in
    subst (IsWaited c.args.generation.now.mapping) (sym c.in_ok-boxed.ensures.same)
    record { mapping = refl; specific = (λ i. list_all (λ s. more_specific s (tuple i)) (all i)) ∙ c.requires.specific }
