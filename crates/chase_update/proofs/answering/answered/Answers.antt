use Rattle.std.proofs.Common.{◌≡◌, ◌∙◌, rules}
use Rattle.chase_query.specs.Meanings.{reply_of}
use Rattle.chase_update.specs.Rows.{goes_on}
use Rattle.chase_update.specs.RowMeanings.{renaming_of}
use Rattle.chase_update.specs.PointMeanings.{reading_of}
use Rattle.chase_update.specs.TurnMeanings.{turn_tree}
use Rattle.chase_update.proofs.answering.answered.Goals as goal
use Rattle.chase_update.proofs.answering.answered.Goals.{in-Naming+in_ok-turn-in-Naming, in-Replacing+in_ok-turn-in-Replacing, in-Renaming+in_ok-turn-in-Renaming, in-Forcing+in_ok-turn-in-Forcing, in-Violating+in_ok-turn-in-Violating}

pub returns-clause-value : goal.returns-clause-value
returns-clause-value c =
    elim c.match-reading.branch [
      | in-Naming+in_ok-turn-in-Naming w ↦ search rules
      | in-Replacing+in_ok-turn-in-Replacing w ↦ search rules
      | in-Renaming+in_ok-turn-in-Renaming w ↦
          λ P of.
          let ms = c.args.mappings.now in
          let there : renaming_of w.deref-in-Renaming.result.now ≡ reading_of c.args.reading.now = search rules in
          (λ i. turn_tree ms P (w.turn-is i)) ∙ (w.in_ok-turn-in-Renaming.ensures.value ms P ∙ (λ i. goes_on ms P (there i) (reply_of c.args.answer.now)))
      | in-Forcing+in_ok-turn-in-Forcing w ↦ search rules
      | in-Violating+in_ok-turn-in-Violating w ↦ search rules
    ]
