use Rattle.std.proofs.Common.{refl, subst, Bool}
use Rattle.core_engine.specs.Drained.{HasMadeTurn}
use Rattle.core_engine.proofs.Resting.{turned_on, less_left, rests_quiet}
use Rattle.core_engine.proofs.cores.Core.drain.Goals as goal

pub turns-init : goal.turns-init
turns-init c = record { turns = 0; over = refl; history = refl; relations = refl }

pub turns-preserved : goal.turns-preserved
turns-preserved c =
    turned_on c.args.self.now c.turns.self c.turn.new.self c.turns.invariant (subst (λ (m : Bool). HasMadeTurn m c.turns.self c.turn.new.self) c.if-not-branch.false c.in_ok-turn.ensures.made)

pub turns-smaller : goal.turns-smaller
turns-smaller c = less_left c.turns.self c.turn.new.self (subst (λ (m : Bool). HasMadeTurn m c.turns.self c.turn.new.self) c.if-not-branch.false c.in_ok-turn.ensures.made)

pub returns-then-not-branch-clause-quiet : goal.returns-then-not-branch-clause-quiet
returns-then-not-branch-clause-quiet c = rests_quiet c.turns.self c.turn.new.self (subst (λ (m : Bool). HasMadeTurn m c.turns.self c.turn.new.self) c.if-not-branch.true c.in_ok-turn.ensures.made)
