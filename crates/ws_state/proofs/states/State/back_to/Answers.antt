use Rattle.ws_state.proofs.Returning.{stood_back}
use Rattle.ws_state.proofs.states.State.back_to.Goals as goal

-- What stands is taken back, and nothing else that it goes by.
pub returns-then-self-replays-clause-fold : goal.returns-then-self-replays-clause-fold
returns-then-self-replays-clause-fold c = stood_back _ _ _ _ _ c.in_ok-back_to.ensures.back
