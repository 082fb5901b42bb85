-- What comes of an op, from a state of its program on.
use Rattle.std.specs.Prelude.{ℕ, ◌-◌, nat_lt, Bool, true, false, ◌||◌, if◌then◌else◌, List, is_some}
use Rattle.def_chase.specs.Values.{Fact}
use Rattle.def_chase.specs.Updates.{Choice}
use Rattle.def_steps.specs.Attempts.{Spent, Ended, Attempt, outcome_in}
use Rattle.def_workspace.specs.Runs.{Setting, Thread, Rested, begun_with, run}
use Rattle.chase_update.specs.Starting.{is_start}

-- The attempt within B steps: if it has made them all and has not ended, it is spent.
abbrev pub capped : ℕ → Attempt → Attempt
capped B P =
    record {
      number = P.number;
      attempt = P.attempt;
      operation = P.operation;
      phase = if is_some (outcome_in P.phase) || nat_lt P.steps B then P.phase else Ended Spent;
      own = P.own;
      steps = P.steps;
      nulls = P.nulls;
      taken = P.taken;
    }

-- The thread of an op at its start, where the operation has its effect on values, or after that.
abbrev pub thread_if : Bool → List Fact → Attempt → Thread → Thread
thread_if true D P t = begun_with D P.operation t
thread_if false D P t = t

abbrev pub thread_at : List Fact → Attempt → Thread → Thread
thread_at D P t = thread_if (is_start P.phase) D P t

-- What comes of the op over D if its program is at P, which may make more steps than the op may.
unfoldable pub onwards : Setting → List Fact → Attempt → List Choice → Thread → Rested
onwards s D P cs t = run s D (s.steps - P.steps) (capped s.steps P) cs (thread_at D P t)
