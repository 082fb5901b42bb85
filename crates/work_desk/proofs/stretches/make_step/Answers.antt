use Rattle.std.proofs.Common.{sym, subst, List}
use Rattle.def_history.specs.Cores.{Ground}
use Rattle.def_history.specs.PlainEntries.{PlainEntry}
use Rattle.work_desk.specs.Cores.{IsStep}
use Rattle.work_desk.proofs.stretches.make_step.Goals as goal

-- what planning keeps is seen of none
pub returns-clause-made : goal.returns-clause-made
returns-clause-made g c =
    let over = c.next_plan.ensures.over in
    let history = c.next_plan.ensures.history in
    subst (λ (y : Ground × List PlainEntry). IsStep y.0 y.1 c.args.update (g.C.Core.history c.install.new.self)) (λ k. (over k, history k))
    (c.in_ok-install.ensures.made c.args.update
    (subst (λ (y : Ground × List PlainEntry). g.C.Core.is_plan c.in_ok-plan.plan y.0 y.1 c.args.update) (λ k. (sym over k, sym history k)) c.in_ok-plan.ensures.plan))
