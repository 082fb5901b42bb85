use Rattle.run_laws.proofs.Renaming.{base_renamed}
use Rattle.run_laws.proofs.laws.bases_are_renamed.Goals as goal

pub returns : goal.returns
returns c = λ s r. base_renamed r.repository
