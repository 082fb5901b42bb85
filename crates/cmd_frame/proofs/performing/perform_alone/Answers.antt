-- An empty input is given whole by a source without bytes.
use Rattle.std.proofs.Common.{[], refl, arith}
use Rattle.cmd_frame.specs.Devices.{no_input}
use Rattle.cmd_frame.proofs.Complete.{complete}
use Rattle.cmd_frame.proofs.performing.perform_alone.Goals as goal

pub returns-in-Ok-clause-complete : goal.returns-in-Ok-clause-complete
returns-in-Ok-clause-complete g c =
    complete _ c.deliver.result _ no_input _ _ ([], refl, refl, omega arith, c.in-Ok.ensures) c.deliver.ensures
