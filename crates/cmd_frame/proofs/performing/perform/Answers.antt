-- The whole input was given, and its output delivered.
use Rattle.cmd_frame.proofs.Complete.{complete}
use Rattle.cmd_frame.proofs.performing.perform.Goals as goal

pub returns-in-Ok-clause-complete : goal.returns-in-Ok-clause-complete
returns-in-Ok-clause-complete g c =
    complete _ c.deliver.result _ _ _ _ c.in-Ok.ensures c.deliver.ensures
