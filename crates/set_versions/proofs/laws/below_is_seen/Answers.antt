use Rattle.set_versions.proofs.Numbered.{below_is_seen}
use Rattle.set_versions.proofs.laws.below_is_seen.Goals as goal

pub returns : goal.returns
returns c = below_is_seen
