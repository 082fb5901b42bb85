use Rattle.base_roll.proofs.OneReading.{one_list}
use Rattle.base_roll.proofs.laws.rolls_have_one_reading.Goals as goal

pub returns : goal.returns
returns c = one_list
