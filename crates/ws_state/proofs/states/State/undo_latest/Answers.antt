use Rattle.ws_state.proofs.Returning.{stood_back}
use Rattle.ws_state.proofs.states.State.undo_latest.Goals as goal

-- What stands is taken back, and nothing else that it goes by.
pub returns-clause-fold : goal.returns-clause-fold
returns-clause-fold c = stood_back _ _ _ _ _ c.in_ok-back_to.ensures.back
