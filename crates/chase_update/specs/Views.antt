-- The meaning of the parts of an `Attempt`, and what is always true of them.
use Rattle.std.specs.Prelude.{◌≡◌, ◌<◌, ◌≤◌, ◌*◌, map, is_some, true}
use Rattle.std.specs.Option.{option_map}
use Rattle.base_types.specs.Meanings.{operation_of, change_of}
use Rattle.def_steps.specs.Attempts.{question_in}
use Rattle.chase_update.specs.Courses.{State}
use Rattle.chase_update.specs.PointMeanings.{phase_at, row_at}
use Rattle.chase_update.specs.declared.attempts.Parts.{Parts}

-- The attempt between two steps, or as it was when the step in hand began, together with that step.
abbrev pub state_of : Parts → State
state_of p =
    record {
      attempt = record {
        number = p.number;
        attempt = p.attempt;
        operation = operation_of p.operation;
        phase = phase_at p.point;
        own = map change_of p.own.items;
        steps = p.steps;
        nulls = p.nulls;
        taken = p.taken;
      };
      reading = option_map (λ row. record { budget = p.hand.budget; row = row }) (row_at p.point);
    }

-- At most 1000001 steps, each of which draws at most 64 nulls and takes at most one answer. A step in hand is within its budget,
-- and takes an answer exactly if it began at a question.
pub record IsCounted (p : Parts) : Type 0 where
  pub steps : p.steps ≤ 1000001
  pub nulls : p.nulls ≤ 64 * p.steps
  pub taken : p.taken ≤ p.steps
  pub budget : is_some (row_at p.point) ≡ true → p.steps < p.hand.budget
  pub answers : is_some (row_at p.point) ≡ true → p.hand.answers ≡ is_some (question_in (phase_at p.point))
