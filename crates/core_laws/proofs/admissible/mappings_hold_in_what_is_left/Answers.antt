use Rattle.core_laws.proofs.Checked.{mappings_hold}
use Rattle.core_laws.proofs.admissible.mappings_hold_in_what_is_left.Goals as goal

pub returns : goal.returns
returns c = mappings_hold
