use Rattle.core_laws.proofs.Checked.{checked_is_admissible}
use Rattle.core_laws.proofs.admissible.checked_sessions_are_admissible.Goals as goal

pub returns : goal.returns
returns c = checked_is_admissible
