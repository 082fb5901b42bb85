use Rattle.core_engine.proofs.Losing.{trail_lost}
use Rattle.core_engine.proofs.withdrawals.without.Goals as goal

pub returns : goal.returns
returns c =
    record {
      lost =
          trail_lost c.number.result c.args.item.now c.trail.result.now c.args.versions.now c.in_ok-after.after c.retract.new.self c.number.ensures.number c.in_ok-after.ensures.same c.trail.ensures.trail c.in_ok-retract.ensures.ok;
    }
