use Rattle.core_laws.proofs.Checked.{whole_is_serial}
use Rattle.core_laws.proofs.admissible.whole_histories_are_serial.Goals as goal

pub returns : goal.returns
returns c = whole_is_serial
