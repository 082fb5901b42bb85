use Rattle.run_drill.proofs.Drawn.{one_drawn}
use Rattle.run_drill.proofs.updates.updates.Goals as goal

pub loop-before-preserved : goal.loop-before-preserved
loop-before-preserved c =
    one_drawn c.args.count c.loop-before.before c.args.seed c.loop-before.state c.update.new.state c.loop-before.updates.items c.push.new.self.items c.in_ok-update.field-0
    c.loop-before-test.true c.loop-before.invariant c.in_ok-push.ensures.ok c.in_ok-update.ensures.update c.in_ok-update.ensures.state
