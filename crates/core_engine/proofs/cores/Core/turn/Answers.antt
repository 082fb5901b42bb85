use Rattle.std.proofs.Common.{sym}
use Rattle.core_engine.proofs.Resting.{ready_stands, deliverable_stands, step_turns, delivery_turns, no_turn}
use Rattle.core_engine.proofs.cores.Core.turn.Goals as goal

pub make_step-requires : goal.make_step-requires
make_step-requires c = record { ready = ready_stands c.args.self.now c.in-Some.update (sym c.in-Some.ensures.lowest) }

pub make_delivery-requires : goal.make_delivery-requires
make_delivery-requires c =
    let stands = deliverable_stands c.args.self.now c.in-Some-lowest_deliverable.update (sym c.in-Some-lowest_deliverable.ensures.lowest) in
    record { pending = stands.0; waits = stands.1 }

pub returns-in-Some-clause-made : goal.returns-in-Some-clause-made
returns-in-Some-clause-made c =
    step_turns c.args.self.now c.make_step.new.self c.in-Some.update (sym c.in-Some.ensures.lowest) c.in_ok-make_step.ensures.made c.is_legal.ensures.budget c.is_legal.ensures.sorted c.is_legal.ensures.legal

pub returns-in-Some-lowest_deliverable-clause-made : goal.returns-in-Some-lowest_deliverable-clause-made
returns-in-Some-lowest_deliverable-clause-made c =
    delivery_turns c.args.self.now c.make_delivery.new.self c.in-Some-lowest_deliverable.update (sym c.in_default.ensures.lowest) (sym c.in-Some-lowest_deliverable.ensures.lowest) c.in_ok-make_delivery.ensures.made
    c.is_legal.ensures.budget c.is_legal.ensures.sorted c.is_legal.ensures.legal

pub returns-clause-made : goal.returns-clause-made
returns-clause-made c = no_turn c.args.self.now (sym c.in_default.ensures.lowest) (sym c.in_default-lowest_deliverable.ensures.lowest)
