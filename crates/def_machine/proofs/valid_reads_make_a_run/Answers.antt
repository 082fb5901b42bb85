use Rattle.def_machine.specs.Small.{small}
use Rattle.def_machine.proofs.Replay.{replay_law}
use Rattle.def_machine.proofs.SmallLaws.{small_laws}
use Rattle.def_machine.proofs.valid_reads_make_a_run.Goals as goal

pub returns : goal.returns
returns c = λ budget some. replay_law (small budget) (small_laws budget some)
