use Rattle.ws_laws.proofs.Growing.{names_are_given_once}
use Rattle.ws_laws.proofs.laws.names_are_given_once.Goals as goal

pub returns : goal.returns
returns c = names_are_given_once
