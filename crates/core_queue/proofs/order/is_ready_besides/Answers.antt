use Rattle.std.proofs.Common.{ap}
use Rattle.std.specs.Prelude.{not}
use Rattle.core_queue.proofs.Deciding.{both, neither}
use Rattle.core_queue.proofs.order.is_ready_besides.Goals as goal

pub returns-then-ready : goal.returns-then-ready
returns-then-ready c = record { ready = λ ms B. both c.is_ready-ready.result _ _ _ c.if-ready.true (c.is_ready-ready.ensures.ready ms B) (ap not c.is_among-besides.ensures.among) }

pub returns-else-ready : goal.returns-else-ready
returns-else-ready c = record { ready = λ ms B. neither c.is_ready-ready.result _ _ c.if-ready.false (c.is_ready-ready.ensures.ready ms B) }
