use Rattle.std.proofs.Common.{◌≡◌, ◌-◌, ◌<◌, false, None, is_some, map}
use Rattle.base_types.specs.Meanings.{choice_of}
use Rattle.def_steps.specs.Attempts.{outcome_in}
use Rattle.run_step.specs.Turns.{view_of}
use Rattle.run_serial.specs.Rests.{rest_from}
use Rattle.run_serial.proofs.wholes.go_with.Given as goal

-- Between two steps; the view is of these mappings, in the update's direction, and sees the own writes; from where the attempt comes to the same rest; some steps are left unless it has ended.
abbrev pub invariant-turns : goal.invariant-turns
invariant-turns l = record {
  between : l.program.reading ≡ None;
  seen : l.view ≡ view_of l.mappings l.fn.view.below l.program.attempt;
  left : is_some (outcome_in l.program.attempt.phase) ≡ false → l.program.attempt.steps < l.budget;
  together :
      rest_from l.mappings l.budget l.fn.view.below (map choice_of l.answers.items) (l.budget - l.fn.program.attempt.steps) l.fn.program.attempt
      ≡ rest_from l.mappings l.budget l.fn.view.below (map choice_of l.answers.items) (l.budget - l.program.attempt.steps) l.program.attempt;
}

-- How many steps are left.
abbrev pub decreases-turns : goal.decreases-turns
decreases-turns l = l.budget - l.program.attempt.steps
