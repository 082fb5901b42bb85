use Rattle.std.proofs.Common.{◌≡◌, ◌∙◌, ◌<◌, ap, sym, subst, map, is_some, arith}
use Rattle.base_types.specs.Meanings.{change_of, choice_of}
use Rattle.def_steps.specs.Attempts.{Phase, question_in}
use Rattle.chase_repair.specs.Meanings.{asks_on}
use Rattle.chase_update.specs.Courses.{State}
use Rattle.chase_update.specs.PointMeanings.{phase_at}
use Rattle.chase_update.specs.Views.{IsCounted, state_of}
use Rattle.chase_update.proofs.Landing.{asks_same, left_same}
use Rattle.chase_update.proofs.Wanting.{choice_answers}
use Rattle.chase_update.proofs.attempts.Attempt.choose.Goals as goal

pub invariant_of-self-in-Asks : goal.invariant_of-self-in-Asks
invariant_of-self-in-Asks c =
    let was = c.deref_mut-parts.result.now in
    let view : state_of was ≡ c.args.self.now = ap state_of c.deref_mut-parts.ensures.value ∙ c.self.view_is in
    let counted : IsCounted was = subst IsCounted (sym c.deref_mut-parts.ensures.value) c.self.invariant in
    let P = (state_of was).attempt in
    let same = asks_same c.args.mappings.now (map change_of c.choose.new.self.items) (map change_of was.own.items) c.in-Repair.repair c.choose.new.repair _ _ (ap asks_on c.in-Asks.is) (c.in_ok-choose-in-Repair.ensures.step P) in
    let fits = choice_answers c.args.self.now (choice_of c.args.choice.now) c.requires.fits in
    let phase = ap (λ (s : State). s.attempt.phase) (sym view) ∙ ap phase_at c.in-Repair.is ∙ sym same.1 in
    let steps : was.steps ≡ c.args.self.now.attempt.steps = ap (λ (s : State). s.attempt.steps) view in
    let above : was.steps < c.args.budget = omega arith in
    record {
      steps = counted.steps;
      nulls = counted.nulls;
      taken = counted.taken;
      budget = λ e. above;
      answers = λ e. fits ∙ ap (λ (p : Phase). is_some (question_in p)) phase;
    }

pub returns-in-Asks-clause-attempt : goal.returns-in-Asks-clause-attempt
returns-in-Asks-clause-attempt c =
    let was = c.deref_mut-parts.result.now in
    let view : state_of was ≡ c.args.self.now = ap state_of c.deref_mut-parts.ensures.value ∙ c.self.view_is in
    let P = (state_of was).attempt in
    let same = asks_same c.args.mappings.now (map change_of c.choose.new.self.items) (map change_of was.own.items) c.in-Repair.repair c.choose.new.repair _ _ (ap asks_on c.in-Asks.is) (c.in_ok-choose-in-Repair.ensures.step P) in
    let phase = same.1 ∙ ap phase_at (sym c.in-Repair.is) in
    λ e. left_same P (map change_of c.choose.new.self.items) _ (same.0, phase) ∙ ap (λ (s : State). s.attempt) view
