-- What the program's totals mean.
use Rattle.std.specs.Prelude.{ℕ, ◌*◌, ◌≤◌}
use Rattle.run_drill.specs.Totals as meant
use Rattle.run_drill.specs.declared.totals.Totals.{Totals}

abbrev pub totals_of : Totals → meant.Totals
totals_of t = record { done = t.done; spent = t.spent; refused = t.refused; steps = t.steps; nulls = t.nulls }

-- These are totals of at most `most` updates.
pub record IsWithin (most : ℕ) (t : Totals) : Type 0 where
  pub done : t.done ≤ most
  pub spent : t.spent ≤ most
  pub refused : t.refused ≤ most
  pub steps : t.steps ≤ most * 4294967296
  pub nulls : t.nulls ≤ most * 4294967296
