use Rattle.std.proofs.Common.{◌≡◌}
use Rattle.ws_state.specs.Stands.{what_stood}
use Rattle.ws_state.proofs.states.State.replay.Given as goal

-- What stood at the fold is as it was.
abbrev pub invariant-loop-event : goal.invariant-loop-event
invariant-loop-event l = what_stood l.self ≡ what_stood l.fn.self
