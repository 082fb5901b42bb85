use Rattle.ws_state.proofs.Returning.{adds_up}
use Rattle.ws_state.proofs.points.runs_add_up.Goals as goal

pub returns : goal.returns
returns c = adds_up
