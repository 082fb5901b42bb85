use Rattle.set_versions.proofs.Seen.{seen_is_applied}
use Rattle.set_versions.proofs.laws.seen_is_applied.Goals as goal

pub returns : goal.returns
returns c = seen_is_applied
