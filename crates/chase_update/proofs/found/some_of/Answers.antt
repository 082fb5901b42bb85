use Rattle.chase_update.proofs.Lookups.{some_full}
use Rattle.chase_update.proofs.found.some_of.Goals as goal

pub returns-else-is_empty : goal.returns-else-is_empty
returns-else-is_empty c = record { found = some_full c.args.tuples.now.items c.is_empty.result c.is_empty.ensures.empty c.if-is_empty.false }
