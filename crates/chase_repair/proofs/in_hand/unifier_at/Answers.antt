use Rattle.std.proofs.Common.{◌≡◌, ◌∙◌, ℕ, ap, rules}
use Rattle.base_types.specs.Meanings.{fact_of}
use Rattle.base_types.specs.Maps.{images_of, moved_by}
use Rattle.chase_question.specs.declared.questions.Question.TheVariants.{Positive}
use Rattle.chase_repair.specs.Stages.{repair_of, repairing_of, waiting}
use Rattle.chase_repair.proofs.InHand.{unifier_is}
use Rattle.chase_repair.proofs.in_hand.unifier_at.Goals as goal

pub returns : goal.returns
returns c =
    let a = c.in-Positive in
    let g = c.args.generation.now in
    let at : (m : ℕ) × (c.in-Waiting.question.value ≡ Positive m a.tuple a.candidates) = search rules in
    record {
      unifier =
          unifier_is g c.args.stage.now at.0 a.tuple a.candidates (fact_of c.args.form.now) (moved_by (images_of c.in_ok-sub-in-Positive.sub))
          (ap (repairing_of g) c.in-Waiting.is ∙ ap (waiting (repair_of g)) at.1) c.in_ok-sub-in-Positive.ensures.unifier;
    }
