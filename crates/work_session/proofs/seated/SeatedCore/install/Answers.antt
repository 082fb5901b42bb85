use Rattle.work_session.proofs.Serving.{plan_ready, plan_step, plan_made}
use Rattle.work_session.proofs.seated.SeatedCore.install.Goals as goal

pub install-requires-clause-ready : goal.install-requires-clause-ready
install-requires-clause-ready c = plan_ready c.self.inside.core c.args.self.now c.self.view_is c.args.plan c.requires.plan

pub install-requires-clause-step : goal.install-requires-clause-step
install-requires-clause-step c = plan_step c.self.inside.core c.args.self.now c.self.view_is c.args.plan c.requires.plan

pub returns-clause-made : goal.returns-clause-made
returns-clause-made c = plan_made c.self.inside.core c.args.self.now c.self.view_is c.install.new.self c.args.plan c.in_ok-install.ensures.made
