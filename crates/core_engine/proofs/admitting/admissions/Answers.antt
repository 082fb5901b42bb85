use Rattle.core_engine.proofs.Opening.{one_admission}
use Rattle.core_engine.proofs.admitting.admissions.Goals as goal

pub loop-i-preserved : goal.loop-i-preserved
loop-i-preserved c = one_admission c.loop-i.history.items c.push.new.self.items c.loop-i.i c.loop-i.invariant c.in_ok-push.ensures.ok
