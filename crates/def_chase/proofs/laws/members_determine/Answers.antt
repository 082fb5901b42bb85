use Rattle.def_chase.proofs.Sets.{same_repository}
use Rattle.def_chase.proofs.laws.members_determine.Goals as goal

pub returns : goal.returns
returns c = same_repository
