use Rattle.std.proofs.Common.{◌≡◌, drop}
use Rattle.def_steps.specs.Attempts.{Attempt}
use Rattle.def_steps.specs.Steps.{look_from}
use Rattle.chase_update.proofs.passing.next_in_play.Given as goal

-- The look from here on is that from the start on.
abbrev pub invariant-loop-place : goal.invariant-loop-place
invariant-loop-place l = (P : Attempt) → P.number ≡ l.number → look_from P l.place (drop l.place l.mappings) ≡ look_from P l.from (drop l.from l.mappings)
