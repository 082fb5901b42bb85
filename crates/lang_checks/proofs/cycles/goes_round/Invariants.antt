use Rattle.std.proofs.Common.{◌≡◌, ℕ, ◌<◌, false}
use Rattle.std.specs.List.{slice_index_or}
use Rattle.lang_checks.specs.Tables.{among}
use Rattle.lang_checks.proofs.cycles.goes_round.Given as goal

abbrev pub invariant-loop-place : goal.invariant-loop-place
invariant-loop-place l = (r : ℕ) → r < l.place → among (slice_index_or l.rows r (record { bits = 0 })) r ≡ false
