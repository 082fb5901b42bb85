use Rattle.core_engine.proofs.Preparing.{turned_hidden, turned_more}
use Rattle.core_engine.proofs.stepping.turned.Goals as goal

pub returns-then-hides : goal.returns-then-hides
returns-then-hides c = record { turned = turned_hidden c.args.item.now c.args.plan.now c.trail.result.now c.hides.result c.hides.ensures.hidden c.if-hides.true c.trail.ensures.trail }

pub returns : goal.returns
returns c = record { turned = turned_more c.args.item.now c.args.plan.now c.written.result.now c.hides.result c.hides.ensures.hidden c.if-hides.false c.written.ensures.written }
