use Rattle.std.proofs.Common.{◌≡◌, ◌∙◌, ℕ, ap, map, rules}
use Rattle.base_types.specs.Meanings.{fact_of, change_of, choice_of}
use Rattle.base_types.specs.Maps.{images_of, moved_by}
use Rattle.chase_question.specs.declared.questions.Question.TheVariants.{Positive}
use Rattle.chase_repair.specs.Repairs.{phase_of}
use Rattle.chase_repair.specs.Stages.{gathering_of, repair_of, repairing_of, unifying, waiting}
use Rattle.chase_repair.proofs.Unified.{ends_at_once, asks_first}
use Rattle.chase_repair.proofs.choosing.chosen.Goals as goal

pub returns-in_ok-stage-in-Positive-Unify-clause-step : goal.returns-in_ok-stage-in-Positive-Unify-clause-step
returns-in_ok-stage-in-Positive-Unify-clause-step c =
    let a = c.in-Positive-Unify in
    let plan = c.in_ok-sub-in-Positive-Unify in
    let g = c.args.generation.now in
    let at : (m : ℕ) × (c.in-Waiting.question.value ≡ Positive m a.tuple a.candidates) = search rules in
    ends_at_once c.args.mappings.now (map change_of c.args.own.now.items) (map change_of c.unify.new.own.items) g c.args.stage.now at.0 a.tuple a.candidates (choice_of c.args.choice.now) (fact_of a.form) (moved_by (images_of plan.sub)) plan.nulls.items c.new-found.result.items
    (phase_of (repairing_of c.unify.new.generation c.in_ok-stage-in-Positive-Unify.field-0))
    (ap (repairing_of g) c.in-Waiting.is ∙ ap (waiting (repair_of g)) at.1) (ap choice_of a.is-1) plan.ensures.unifier plan.ensures.nulls (search rules) c.new-found.ensures.empty c.in_ok-stage-in-Positive-Unify.ensures.writes c.in_ok-stage-in-Positive-Unify.ensures.phase

pub returns-in_ok-gathering-in-Positive-Unify-clause-step : goal.returns-in_ok-gathering-in-Positive-Unify-clause-step
returns-in_ok-gathering-in-Positive-Unify-clause-step c =
    let a = c.in-Positive-Unify in
    let plan = c.in_ok-sub-in-Positive-Unify in
    let g = c.args.generation.now in
    let made = c.in_ok-gathering-in-Positive-Unify in
    let at : (m : ℕ) × (c.in-Waiting.question.value ≡ Positive m a.tuple a.candidates) = search rules in
    asks_first c.args.mappings.now (map change_of c.args.own.now.items) g c.args.stage.now c.unifying.result at.0 a.tuple a.candidates (choice_of c.args.choice.now) (fact_of a.form) plan.sub plan.nulls.items c.first_asked.result
    (ap (repairing_of g) c.in-Waiting.is ∙ ap (waiting (repair_of g)) at.1) (ap choice_of a.is-1) plan.ensures.unifier plan.ensures.nulls c.first_asked.ensures
    (ap (repairing_of g) (c.unifying.ensures c.in-Waiting.question (c.replace.ensures.value ∙ c.in-Waiting.is)) ∙ (λ i. unifying (repair_of g) (at.1 i) (gathering_of (made.ensures.same i))))
