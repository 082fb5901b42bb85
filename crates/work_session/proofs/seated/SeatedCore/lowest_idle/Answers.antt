use Rattle.std.proofs.Common.{◌∙◌, ap}
use Rattle.core_engine.specs.States.{State, lowest_ready_besides_at}
use Rattle.work_session.proofs.seated.SeatedCore.lowest_idle.Goals as goal

pub returns : goal.returns
returns c = c.lowest_ready_besides.ensures.lowest ∙ ap (λ (x : State). lowest_ready_besides_at x c.args.busy.now) c.self.view_is
