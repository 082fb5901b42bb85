use Rattle.std.proofs.Common.{subst}
use Rattle.def_history.specs.Cores.{IsLegalOver}
use Rattle.core_engine.specs.States.{State}
use Rattle.work_session.proofs.seated.SeatedCore.length.Goals as goal

pub returns-clause-legal : goal.returns-clause-legal
returns-clause-legal c = subst (λ (x : State). IsLegalOver x.over x.history) c.self.view_is c.is_legal.ensures.legal
