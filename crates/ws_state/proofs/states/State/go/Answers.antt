use Rattle.std.proofs.Common.{refl}
use Rattle.ws_state.proofs.Staying.{gone_on}
use Rattle.ws_state.proofs.states.State.go.Goals as goal

-- The run goes on, and nothing else touches what stands.
pub returns-clause-goes_on : goal.returns-clause-goes_on
returns-clause-goes_on c = gone_on _ _ c.in_ok-reason.ensures.goes_on refl refl refl
