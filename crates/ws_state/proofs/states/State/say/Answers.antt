use Rattle.std.proofs.Common.{refl}
use Rattle.ws_state.proofs.Staying.{gone_on}
use Rattle.ws_state.proofs.states.State.say.Goals as goal

-- The run goes on, and nothing else touches what stands.
pub returns-clause-goes_on : goal.returns-clause-goes_on
returns-clause-goes_on c = gone_on _ _ c.in_ok-reason.ensures.goes_on refl refl refl

-- What was kept of what stood is kept still.
pub returns-clause-said : goal.returns-clause-said
returns-clause-said c = record { latest = _; there = c.keep.ensures.kept; kept = c.in_ok-latest.ensures.kept; goes_on = c.in_ok-reason.ensures.goes_on }
