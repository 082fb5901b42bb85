use Rattle.std.proofs.Common.{◌≡◌, ◌∙◌, ap, sym, subst}
use Rattle.base_types.specs.Listed.{Listed}
use Rattle.chase_query.specs.Meanings.{reads_in}
use Rattle.chase_query.specs.declared.log.Logged.{Logged}
use Rattle.chase_update.specs.Logged.{IsLogged}
use Rattle.chase_update.specs.PointMeanings.{reading_of}
use Rattle.chase_update.specs.Rows.{row_tree}
use Rattle.chase_update.specs.Courses.{Course, course}
use Rattle.chase_update.specs.Views.{state_of}
use Rattle.chase_update.specs.declared.attempts.Attempt.TheInside.{Inside}
use Rattle.chase_update.proofs.Logging.{logged_none, logged_step}
use Rattle.chase_update.proofs.Passed.{passes_on, stays_there}
use Rattle.chase_update.proofs.attempts.Attempt.pass_logged.Goals as goal
use Rattle.chase_update.proofs.attempts.Attempt.pass_logged.Goals.{in-Reading+in_ok-pass_logged, in_default}

pub returns-clause-passed : goal.returns-clause-passed
returns-clause-passed c = λ val finds.
    let ms = c.args.mappings.now in
    let was = c.deref_mut-parts.result.now in
    let view : state_of was ≡ c.args.self.now = ap state_of c.deref_mut-parts.ensures.value ∙ c.self.view_is in
    let before = reads_in c.args.log.now.items in
    let Goes : Listed Logged → Course → Course → Type 0 = λ log t u. IsLogged val c.args.made t before u (reads_in log.items) in
    elim c.match-parts.branch [
      | in-Reading+in_ok-pass_logged w ↦
          passes_on ms (Goes c.match-parts.log) was c.match-parts.self-inside.parts.value c.args.self.now w.in-Reading.reading w.pass_logged.new.reading
          view w.in-Reading.is (ap (λ (p : Inside). p.parts.value) w.self-inside-is)
          (λ P number. logged_step val c.args.made was.hand.budget P (row_tree ms P (reading_of w.in-Reading.reading)) (row_tree ms P (reading_of w.pass_logged.new.reading)) before (reads_in c.match-parts.log.items)
          (subst (λ (log : Listed Logged). IsLogged val c.args.made (row_tree ms P (reading_of w.in-Reading.reading)) before (row_tree ms P (reading_of w.pass_logged.new.reading)) (reads_in log.items)) (sym w.log-is) (w.in_ok-pass_logged.ensures.passed val P finds number)))
          w.pass_logged.ensures.phase
      | in_default w ↦
          stays_there ms (Goes c.match-parts.log) was c.match-parts.self-inside.parts.value c.args.self.now view (ap (λ (p : Inside). p.parts.value) w.self-inside-is)
          (subst (λ (log : Listed Logged). Goes log (course ms c.args.self.now) (course ms c.args.self.now)) (sym w.log-is) (logged_none val c.args.made (course ms c.args.self.now) before))
    ]
