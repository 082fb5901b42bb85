use Rattle.def_chase.proofs.SpecificLaws.{specific_itself, specific_chain}
use Rattle.def_chase.proofs.Unified.{specific_decides}
use Rattle.def_chase.proofs.laws.more_specific_is_decided.Goals as goal

pub returns : goal.returns
returns c = record { decides = specific_decides; reflexive = specific_itself; transitive = specific_chain }
