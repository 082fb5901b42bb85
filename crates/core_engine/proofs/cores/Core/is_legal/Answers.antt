use Rattle.core_engine.proofs.Living.{core_serial}
use Rattle.core_engine.proofs.Telling.{legal_told}
use Rattle.core_engine.proofs.cores.Core.is_legal.Goals as goal

pub returns-clause-legal : goal.returns-clause-legal
returns-clause-legal c = legal_told _ _ c.self.inside.queue.items _ c.self.invariant.0.left c.self.view_is

pub returns-clause-serial : goal.returns-clause-serial
returns-clause-serial c = core_serial _ _ _ c.self.invariant.5 c.self.invariant.0.left.legal c.self.view_is
