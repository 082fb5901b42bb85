use Rattle.std.proofs.Common.{◌≡◌, ◌∙◌, ◌-◌, ap, sym, List, map}
use Rattle.def_chase.specs.Values.{Fact}
use Rattle.def_chase.specs.Updates.{direction_of}
use Rattle.chase_update.specs.Courses.{between, State}
use Rattle.chase_eval.specs.Watched.{Watched}
use Rattle.std.specs.Option.{option_map, option_copied}
use Rattle.base_types.specs.Meanings.{choice_of}
use Rattle.chase_update.specs.Results.{lack_of}
use Rattle.run_step.specs.Turns.{stepped}
use Rattle.run_serial.specs.Rests.{rest_from}
use Rattle.run_serial.proofs.Running.{stays_on, rests_there}
use Rattle.run_serial.proofs.wholes.go_with.Goals as goal

pub turns-preserved : goal.turns-preserved
turns-preserved c =
    let ms = c.args.mappings.now in
    let answers = map choice_of c.args.answers.now.items in
    let below = ap (λ (v : Watched). v.below) c.turns.invariant.seen in
    let heading : direction_of c.turns.program.attempt.operation ≡ direction_of c.step.new.program.attempt.operation =
    sym (ap (λ (s : State). direction_of s.attempt.operation) c.in_ok-step-in-Step.ensures.stepped) in
    let kept = stays_on ms c.args.budget c.args.view.now.below answers
    (rest_from ms c.args.budget c.args.view.now.below answers (c.args.budget - c.args.program.now.attempt.steps) c.args.program.now.attempt)
    c.turns.program c.step.new.program (option_map choice_of (option_copied c.in-Step.choice))
    (c.turns.invariant.between, c.turns.invariant.left, c.turns.invariant.together)
    c.in-Step.ensures.next
    (c.in_ok-step-in-Step.ensures.stepped
    ∙ ap (λ (D : List Fact). between (stepped ms c.args.budget D c.turns.program.attempt (option_map choice_of (option_copied c.in-Step.choice)))) below) in
    record {
      between = kept.0;
      seen =
          c.in_ok-step-in-Step.ensures.seen
          ∙ ap (λ (v : Watched). record { rules = v.rules; heading = v.heading; below = v.below; own = c.step.new.program.attempt.own }) c.turns.invariant.seen
          ∙ (λ i. record { rules = ms; heading = heading i; below = c.args.view.now.below; own = c.step.new.program.attempt.own });
      left = kept.1;
      together = kept.2;
    }

pub returns-in-Rest-clause-rests : goal.returns-in-Rest-clause-rests
returns-in-Rest-clause-rests c =
    let ms = c.args.mappings.now in
    let answers = map choice_of c.args.answers.now.items in
    rests_there ms c.args.budget c.args.view.now.below answers
    (rest_from ms c.args.budget c.args.view.now.below answers (c.args.budget - c.args.program.now.attempt.steps) c.args.program.now.attempt)
    c.turns.program (option_map lack_of c.in-Rest.lack)
    (c.turns.invariant.between, c.turns.invariant.left, c.turns.invariant.together) c.in-Rest.ensures.next
