use Rattle.chase_query.proofs.OfKind.{values_are_of_kind}
use Rattle.chase_query.proofs.laws.values_are_of_their_kind.Goals as goal

pub returns : goal.returns
returns c = values_are_of_kind
