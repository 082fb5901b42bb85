use Rattle.std.proofs.Common.{◌∙◌, ap, suc}
use Rattle.audit_updates.proofs.Walking.{one_more, no_more, all_over, stands_here, stand_after}
use Rattle.audit_updates.proofs.order.committed.Goals as goal

pub returns-then-not-is_over : goal.returns-then-not-is_over
returns-then-not-is_over c = record { committed = λ ms B. no_more ms B c.args.updates.now c.loop-audited.audited-index c.loop-audited.count _ c.audited-item.result c.is_over.result c.loop-audited-test.true c.audited-item.is c.is_over.ensures.over c.if-not-is_over.true (c.loop-audited.invariant.left ms B) }

pub loop-audited-preserved : goal.loop-audited-preserved
loop-audited-preserved c = record {
  from = stand_after c.args.updates.now c.loop-audited.audited-index (suc c.loop-audited.count) _ c.audited-item.result c.loop-audited-test.true c.audited-item.is (ap suc (c.number-count.ensures.number ∙ (stands_here c.args.updates.now c.loop-audited.audited-index (suc c.loop-audited.count) c.audited-item.result c.loop-audited-test.true c.audited-item.is c.loop-audited.invariant.from).number)) c.loop-audited.invariant.from;
  left = λ ms B. one_more ms B c.args.updates.now c.loop-audited.audited-index c.loop-audited.count _ _ c.audited-item.result c.is_over.result c.loop-audited-test.true c.audited-item.is c.loop-audited.invariant.from c.number-count.ensures.number c.is_over.ensures.over c.if-not-is_over.false (c.loop-audited.invariant.left ms B);
}

pub returns : goal.returns
returns c = record { committed = λ ms B. all_over ms B c.args.updates.now c.loop-audited.audited-index c.loop-audited.count _ c.loop-audited-test.false (c.loop-audited.invariant.left ms B) }
