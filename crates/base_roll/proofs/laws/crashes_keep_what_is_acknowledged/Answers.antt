use Rattle.base_roll.specs.Rolls.{IsRoll}
use Rattle.base_roll.proofs.Turns.{all_kept}
use Rattle.base_roll.proofs.laws.crashes_keep_what_is_acknowledged.Goals as goal

pub returns : goal.returns
returns g c = λ before payloads start turns k bytes rest h l m i. all_kept (IsRoll before) g.D.Disk.state (c.rolls_have_one_reading.ensures before) k bytes start payloads turns rest h l m i
