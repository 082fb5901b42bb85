use Rattle.std.proofs.Common.{◌≡◌, ◌∙◌, ◌++◌, ◌-◌, ap, sym, List, map, append_assoc}
use Rattle.std.proofs.lemmas.List.{append-nil}
use Rattle.def_chase.specs.Values.{Fact}
use Rattle.def_chase.specs.Updates.{direction_of}
use Rattle.chase_update.specs.Courses.{between, State}
use Rattle.chase_eval.specs.Watched.{Watched}
use Rattle.std.specs.Option.{option_map, option_copied}
use Rattle.base_types.specs.Meanings.{choice_of}
use Rattle.chase_update.specs.Results.{lack_of}
use Rattle.def_provenance.specs.Notes.{Noted, noted}
use Rattle.run_step.specs.Turns.{stepped}
use Rattle.run_serial.specs.Rests.{rest_from}
use Rattle.run_serial.proofs.Running.{stays_on, rests_there}
use Rattle.run_note.specs.Meanings.{note_of}
use Rattle.run_note.specs.Steps.{step_of}
use Rattle.run_explain.specs.Turns.{left_from}
use Rattle.run_explain.proofs.Noting.{notes_on, notes_rest}
use Rattle.run_explain.proofs.wholes.go_on.Goals as goal

pub turns-preserved : goal.turns-preserved
turns-preserved c =
    let ms = c.args.mappings.now in
    let D = c.args.facts.now in
    let answers = map choice_of c.args.answers.now.items in
    let P = c.args.program.now.attempt in
    let choice = option_map choice_of (option_copied c.in-Step.choice) in
    let below = ap (λ (v : Watched). v.below) c.turns.invariant.seen in
    let heading : direction_of c.turns.program.attempt.operation ≡ direction_of c.step.new.program.attempt.operation =
    sym (ap (λ (s : State). direction_of s.attempt.operation) c.in_ok-step-in-Step.ensures.stepped) in
    let made =
    c.in_ok-step-in-Step.ensures.stepped
    ∙ ap (λ (E : List Fact). between (stepped ms c.args.budget E c.turns.program.attempt choice)) below in
    let kept = stays_on ms c.args.budget D answers (rest_from ms c.args.budget D answers (c.args.budget - P.steps) P)
    c.turns.program c.step.new.program choice
    (c.turns.invariant.between, c.turns.invariant.left, c.turns.invariant.together)
    c.in-Step.ensures.next made in
    let rest = left_from ms c.args.budget D answers (c.args.budget - c.step.new.program.attempt.steps) c.step.new.program.attempt in
    record {
      between = kept.0;
      seen =
          c.in_ok-step-in-Step.ensures.seen
          ∙ ap (λ (v : Watched). record { rules = v.rules; heading = v.heading; below = v.below; own = c.step.new.program.attempt.own }) c.turns.invariant.seen
          ∙ (λ i. record { rules = ms; heading = heading i; below = D; own = c.step.new.program.attempt.own });
      left = kept.1;
      together = kept.2;
      noted =
          c.turns.invariant.noted
          ∙ ap (λ (ns : List Noted). map note_of c.turns.notes.items ++ ns)
          (notes_on ms c.args.budget D answers c.turns.program c.step.new.program choice c.turns.invariant.between c.turns.invariant.left c.in-Step.ensures.next made)
          ∙ sym (append_assoc (map note_of c.turns.notes.items) (noted (step_of ms D c.turns.program.attempt choice)) rest)
          ∙ ap (λ (E : List Fact). (map note_of c.turns.notes.items ++ noted (step_of ms E c.turns.program.attempt choice)) ++ rest) (sym below)
          ∙ ap (λ (ns : List Noted). ns ++ rest) (sym c.in_ok-step-in-Step.ensures.noted);
    }

pub returns-in-Rest-clause-rests : goal.returns-in-Rest-clause-rests
returns-in-Rest-clause-rests c =
    let ms = c.args.mappings.now in
    let D = c.args.facts.now in
    let answers = map choice_of c.args.answers.now.items in
    let P = c.args.program.now.attempt in
    rests_there ms c.args.budget D answers (rest_from ms c.args.budget D answers (c.args.budget - P.steps) P)
    c.turns.program (option_map lack_of c.in-Rest.lack)
    (c.turns.invariant.between, c.turns.invariant.left, c.turns.invariant.together) c.in-Rest.ensures.next

pub returns-in-Rest-clause-noted : goal.returns-in-Rest-clause-noted
returns-in-Rest-clause-noted c =
    let ms = c.args.mappings.now in
    let D = c.args.facts.now in
    let answers = map choice_of c.args.answers.now.items in
    let before = map note_of c.turns.notes.items in
    sym
    (c.turns.invariant.noted
    ∙ ap (λ (ns : List Noted). before ++ ns)
    (notes_rest ms c.args.budget D answers c.turns.program (option_map lack_of c.in-Rest.lack) (c.args.budget - c.turns.program.attempt.steps) c.turns.invariant.between c.in-Rest.ensures.next)
    ∙ append-nil before)
