use Rattle.run_laws.proofs.Holding.{holds_renamed}
use Rattle.run_laws.proofs.Names.{renamed_repository}
use Rattle.run_laws.proofs.laws.names_keep_mappings.Goals as goal

pub returns-clause-hold : goal.returns-clause-hold
returns-clause-hold c = λ m D E plain r h. holds_renamed D E r m plain h

pub returns-clause-in_order : goal.returns-clause-in_order
returns-clause-in_order c = λ D E r s. renamed_repository D E r s
