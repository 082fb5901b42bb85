use Rattle.run_drill.proofs.Blank.{blank_read}
use Rattle.run_drill.proofs.laws.blank_is_read.Goals as goal

pub returns : goal.returns
returns c = record { blank = blank_read }
