use Rattle.std.proofs.Common.{◌≡◌, ◌-◌, ◌<◌, ◌++◌, false, None, is_some, map}
use Rattle.base_types.specs.Meanings.{choice_of}
use Rattle.def_chase.specs.Updates.{direction_of}
use Rattle.def_steps.specs.Attempts.{outcome_in}
use Rattle.run_serial.specs.Rests.{rest_from}
use Rattle.run_note.specs.Meanings.{note_of}
use Rattle.run_explain.specs.Turns.{left_from}
use Rattle.run_explain.proofs.wholes.go_on.Given as goal

-- Between two steps; the view is of these mappings, in the update's direction, and sees the own writes; from where the attempt comes to the same rest, and what is noted of its steps is noted after the notes; some steps are left unless it has ended.
abbrev pub invariant-turns : goal.invariant-turns
invariant-turns l = record {
  between : l.program.reading ≡ None;
  seen : l.view ≡ record { rules = l.mappings; heading = direction_of l.program.attempt.operation; below = l.facts; own = l.program.attempt.own };
  left : is_some (outcome_in l.program.attempt.phase) ≡ false → l.program.attempt.steps < l.budget;
  together :
      rest_from l.mappings l.budget l.facts (map choice_of l.answers.items) (l.budget - l.fn.program.attempt.steps) l.fn.program.attempt
      ≡ rest_from l.mappings l.budget l.facts (map choice_of l.answers.items) (l.budget - l.program.attempt.steps) l.program.attempt;
  noted :
      map note_of l.fn.notes.items ++ left_from l.mappings l.budget l.facts (map choice_of l.answers.items) (l.budget - l.fn.program.attempt.steps) l.fn.program.attempt
      ≡ map note_of l.notes.items ++ left_from l.mappings l.budget l.facts (map choice_of l.answers.items) (l.budget - l.program.attempt.steps) l.program.attempt;
}

-- How many steps are left.
abbrev pub decreases-turns : goal.decreases-turns
decreases-turns l = l.budget - l.program.attempt.steps
