use Rattle.std.proofs.Common.{◌≡◌, drop}
use Rattle.base_types.specs.Meanings.{datum_of}
use Rattle.ws_run.specs.Moves.{moved_over, ways_of}
use Rattle.ws_run.proofs.following.follow.Given as goal

-- By the steps that are left the value becomes what all make of it.
abbrev pub invariant-loop-step : goal.invariant-loop-step
invariant-loop-step l = moved_over (ways_of (drop l.step-index l.steps)) (datum_of l.now) ≡ moved_over (ways_of l.steps) (datum_of l.value)
