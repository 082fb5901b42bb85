use Rattle.std.proofs.Common.{◌≡◌, subst, sym, Some}
use Rattle.core_engine.proofs.Resting.{deliverable_stands}
use Rattle.core_engine.specs.States.{State, lowest_deliverable_at}
use Rattle.work_session.proofs.Serving.{delivered}
use Rattle.work_session.proofs.seated.SeatedCore.deliver.Goals as goal

pub make_delivery-requires : goal.make_delivery-requires
make_delivery-requires c =
    let lowest : lowest_deliverable_at c.self.inside.core ≡ Some c.args.update = subst (λ (s : State). lowest_deliverable_at s ≡ Some c.args.update) (sym c.self.view_is) c.requires.waiting in
    let stands = deliverable_stands c.self.inside.core c.args.update lowest in
    record { pending = stands.0; waits = stands.1 }

pub returns-clause-made : goal.returns-clause-made
returns-clause-made c = delivered c.self.inside.core c.args.self.now c.self.view_is c.make_delivery.new.self c.args.update c.in_ok-make_delivery.ensures.made
