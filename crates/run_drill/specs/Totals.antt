-- The totals of the ends of a run's updates.
use Rattle.std.specs.Prelude.{ℕ, ◌+◌, List}
use Rattle.std.specs.List.{fold}
use Rattle.chase_update.specs.Results.{FinishTold}
use Rattle.chase_update.specs.Wishes.{End, IsDone, IsSpent, IsRefused}

-- How many updates ended in each way, and how many steps they made and nulls they drew.
pub record Totals : Type 0 where
  pub done : ℕ
  pub spent : ℕ
  pub refused : ℕ
  pub steps : ℕ
  pub nulls : ℕ

abbrev pub nothing : Totals
nothing = record { done = 0; spent = 0; refused = 0; steps = 0; nulls = 0 }

-- The totals with one more update that ended so.
abbrev pub with_end : Totals → End → Totals
with_end t IsDone = record t { done = t.done + 1 }
with_end t IsSpent = record t { spent = t.spent + 1 }
with_end t (IsRefused u k) = record t { refused = t.refused + 1 }

-- The totals with one more update that ended so, with its steps and nulls.
abbrev pub with_finish : Totals → FinishTold → Totals
with_finish t f = record (with_end t f.outcome) { steps = t.steps + f.steps; nulls = t.nulls + f.nulls }

abbrev pub totals : List FinishTold → Totals
totals fs = fold with_finish nothing fs
