use Rattle.youtopia.proofs.Named.{journals, saves}
use Rattle.youtopia.proofs.plain.command.Goals as goal

pub returns-in-Save : goal.returns-in-Save
returns-in-Save g c = record { does = saves _ _ _ _ _ _ c.in-Save.is c.new-budget.ensures.same c.perform-in-Save.ensures.row }

pub returns-in-Journal : goal.returns-in-Journal
returns-in-Journal g c = record { does = journals _ _ _ _ _ _ c.in-Journal.is c.new-budget.ensures.same c.perform-in-Journal.ensures.row }
