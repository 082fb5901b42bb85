use Rattle.core_engine.proofs.Preparing.{shows_hidden_by, shows_more_by}
use Rattle.core_engine.proofs.stepping.versions_after.Goals as goal

pub returns-then-hides : goal.returns-then-hides
returns-then-hides c =
    record {
      shows =
          shows_hidden_by c.args.item.now c.args.plan.now c.trail.result.now c.hides.result c.number.result c.args.versions.now c.in_ok-after.after c.retract.new.self c.hides.ensures.hidden c.if-hides.true c.trail.ensures.trail
          c.number.ensures.number c.in_ok-after.ensures.same c.in_ok-retract.ensures.ok;
    }

pub returns : goal.returns
returns c =
    record {
      shows =
          shows_more_by c.args.item.now c.args.plan.now c.written.result.now c.hides.result c.number-2.result c.args.versions.now c.in_ok-after.after c.publish.new.self c.hides.ensures.hidden c.if-hides.false c.written.ensures.written
          c.number-2.ensures.number c.in_ok-after.ensures.same c.in_ok-publish.ensures.ok;
    }
