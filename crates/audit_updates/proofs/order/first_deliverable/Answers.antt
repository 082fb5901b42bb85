use Rattle.std.proofs.Common.{◌+◌, add-one}
use Rattle.def_machine.specs.Standings.{is_deliverable}
use Rattle.def_steps.specs.Chase.{caused_chase}
use Rattle.audit_updates.specs.Settings.{settings_of}
use Rattle.audit_updates.proofs.Walking.{Test, found, passed, ended, stand_after}
use Rattle.audit_updates.proofs.order.first_deliverable.Goals as goal

pub returns-then-is_deliverable : goal.returns-then-is_deliverable
returns-then-is_deliverable c =
    let test : Test = λ ms B i u. is_deliverable (caused_chase ms B) (settings_of c.args.settings) c.args.committed i u in
    record {
      first = c.loop-audited.invariant.left _
          (found test c.args.updates.now c.loop-audited.audited-index _ c.number-number.result c.audited-item.result c.is_deliverable.result c.loop-audited-test.true c.audited-item.is c.loop-audited.invariant.from c.number-number.ensures.number c.is_deliverable.ensures.deliverable c.if-is_deliverable.true);
    }

pub loop-audited-preserved : goal.loop-audited-preserved
loop-audited-preserved c =
    let test : Test = λ ms B i u. is_deliverable (caused_chase ms B) (settings_of c.args.settings) c.args.committed i u in
    record {
      from = stand_after c.args.updates.now c.loop-audited.audited-index _ _ c.audited-item.result c.loop-audited-test.true c.audited-item.is (add-one (c.loop-audited.audited-index + 1)) c.loop-audited.invariant.from;
      left = λ o first. c.loop-audited.invariant.left o
          (passed test c.args.updates.now c.loop-audited.audited-index _ _ c.number-number.result c.audited-item.result c.is_deliverable.result o c.loop-audited-test.true c.audited-item.is c.loop-audited.invariant.from c.number-number.ensures.number c.is_deliverable.ensures.deliverable c.if-is_deliverable.false (add-one (c.loop-audited.audited-index + 1)) first);
    }

pub returns : goal.returns
returns c =
    let test : Test = λ ms B i u. is_deliverable (caused_chase ms B) (settings_of c.args.settings) c.args.committed i u in
    record { first = c.loop-audited.invariant.left _ (ended test c.args.updates.now c.loop-audited.audited-index _ c.loop-audited-test.false) }
