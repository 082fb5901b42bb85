use Rattle.base_roll.proofs.Processes.{over_lives}
use Rattle.ws_seal.specs.Logs.{HasTexts}
use Rattle.ws_seal.proofs.OneLog.{one_list}
use Rattle.ws_seal.proofs.laws.processes_keep_what_is_acknowledged.Goals as goal

pub returns : goal.returns
returns g c = λ before m. over_lives (HasTexts before m) g.D.Disk.state (one_list c.rolls_have_one_reading.ensures before m)
