use Rattle.cmd_threads.proofs.Delivered.{delivered}
use Rattle.cmd_threads.proofs.drills.Drill.perform.Goals as goal

pub returns-in-Ok : goal.returns-in-Ok
returns-in-Ok g c = record { row = delivered _ _ _ _ _ c.in-Ok.ensures c.deliver.ensures }
