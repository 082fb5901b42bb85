use Rattle.core_engine.proofs.Placing.{cleared_there, cleared_not}
use Rattle.core_engine.proofs.aftermaths.clear_one.Goals as goal

pub returns-in_ok-retract : goal.returns-in_ok-retract
returns-in_ok-retract c =
    record {
      cleared =
          cleared_there c.is_some.result c.args.cause.now c.number.result c.args.item.now c.trail.result.now c.args.versions.now c.retract.new.self c.is_some.ensures c.if-is_some.true c.number.ensures.number c.trail.ensures.trail
          c.in_ok-retract.ensures.ok;
    }

pub returns-else-is_some : goal.returns-else-is_some
returns-else-is_some c = record { cleared = cleared_not c.is_some.result c.args.cause.now c.args.item.now c.args.versions.now c.is_some.ensures c.if-is_some.false }
