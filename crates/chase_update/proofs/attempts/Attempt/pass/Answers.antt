use Rattle.std.proofs.Common.{◌≡◌, ◌∙◌, ap}
use Rattle.chase_update.specs.Settled.{IsShorter}
use Rattle.chase_update.specs.PointMeanings.{reading_of}
use Rattle.chase_update.specs.Rows.{row_tree}
use Rattle.chase_update.specs.Courses.{course}
use Rattle.chase_update.specs.Views.{state_of}
use Rattle.chase_update.specs.declared.attempts.Attempt.TheInside.{Inside}
use Rattle.chase_update.proofs.Shorter.{as_it_is, shorter_step}
use Rattle.chase_update.proofs.Passed.{passes_on, stays_there}
use Rattle.chase_update.proofs.attempts.Attempt.pass.Goals as goal
use Rattle.chase_update.proofs.attempts.Attempt.pass.Goals.{in-Reading, in_default}

pub returns-clause-passed : goal.returns-clause-passed
returns-clause-passed c = λ val finds.
    let ms = c.args.mappings.now in
    let was = c.deref_mut-parts.result.now in
    let view : state_of was ≡ c.args.self.now = ap state_of c.deref_mut-parts.ensures.value ∙ c.self.view_is in
    elim c.match-parts.branch [
      | in-Reading w ↦
          passes_on ms (IsShorter val) was c.match-parts.self-inside.parts.value c.args.self.now w.in-Reading.reading w.pass.new.reading
          view w.in-Reading.is (ap (λ (p : Inside). p.parts.value) w.self-inside-is)
          (λ P number. shorter_step val was.hand.budget P (row_tree ms P (reading_of w.in-Reading.reading)) (row_tree ms P (reading_of w.pass.new.reading)) (w.pass.ensures.passed val P finds number))
          w.pass.ensures.phase
      | in_default w ↦ stays_there ms (IsShorter val) was c.match-parts.self-inside.parts.value c.args.self.now view (ap (λ (p : Inside). p.parts.value) w.self-inside-is) (as_it_is val (course ms c.args.self.now))
    ]
