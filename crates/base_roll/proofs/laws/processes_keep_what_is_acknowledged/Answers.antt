use Rattle.base_roll.specs.Rolls.{IsRoll}
use Rattle.base_roll.proofs.Processes.{over_lives}
use Rattle.base_roll.proofs.laws.processes_keep_what_is_acknowledged.Goals as goal

pub returns : goal.returns
returns g c = λ before payloads found lives left. over_lives (IsRoll before) g.D.Disk.state (c.rolls_have_one_reading.ensures before) payloads found lives left
