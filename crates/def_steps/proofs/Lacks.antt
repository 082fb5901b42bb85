-- What a state lacks at a question, and that a step depends on its reads alone.
use Rattle.std.proofs.Common.{ap, ◌∙◌}
use Rattle.def_machine.specs.Standings.{lack_for, unless_fits}
use Rattle.def_machine.proofs.Leading.{is_replay}
use Rattle.def_steps.specs.Attempts.{question_in}
use Rattle.def_steps.specs.Steps.{step}
use Rattle.def_steps.specs.Chase.{chase}
use Rattle.def_steps.specs.StepLaws.{StepsReplay, FitsDecideLacks}

pub steps_replay : StepsReplay
steps_replay ms P c = is_replay (step ms P c)

pub fits_decide : FitsDecideLacks
fits_decide scope ms B answers P =
    record {
      missing = λ q e h. ap (λ p. lack_for (chase scope ms B) answers P (question_in p)) e ∙ ap (unless_fits (chase scope ms B) q) h;
      next = λ q c e h. ap (λ p. lack_for (chase scope ms B) answers P (question_in p)) e ∙ ap (unless_fits (chase scope ms B) q) h;
      elsewhere = λ e. ap (lack_for (chase scope ms B) answers P) e;
    }
