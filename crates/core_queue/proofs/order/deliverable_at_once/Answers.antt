use Rattle.std.proofs.Common.{ap, sym, Bool, Some, None, arith, length, ◌<◌}
use Rattle.std.specs.Prelude.{if◌then◌else◌}
use Rattle.core_queue.specs.Settings.{settings_of}
use Rattle.core_queue.proofs.Walking.{deliverable_test, found, next_of}
use Rattle.core_queue.proofs.order.deliverable_at_once.Goals as goal

pub returns-then-is_deliverable : goal.returns-then-is_deliverable
returns-then-is_deliverable c =
    let test = deliverable_test (settings_of c.args.settings) c.args.committed in
    let there : 0 < length c.args.rest.now = omega (arith, c.in-len1-up.len_at_least) in
    record {
      next = next_of test c.args.rest.now c.args.committed c.number-number.result c.queued-item.result c.is_deliverable.result there c.queued-item.is c.requires.from c.number-number.ensures.number c.is_deliverable.ensures.deliverable (Some c.number-number.result) (ap (λ (b : Bool). if b then Some c.number-number.result else None) (sym c.if-is_deliverable.true));
      first = found test c.args.rest.now 0 _ c.number-number.result c.queued-item.result c.is_deliverable.result there c.queued-item.is c.requires.from c.number-number.ensures.number c.is_deliverable.ensures.deliverable c.if-is_deliverable.true;
    }

pub returns-else-is_deliverable : goal.returns-else-is_deliverable
returns-else-is_deliverable c =
    let test = deliverable_test (settings_of c.args.settings) c.args.committed in
    record {
      next = next_of test c.args.rest.now c.args.committed c.number-number.result c.queued-item.result c.is_deliverable.result (omega (arith, c.in-len1-up.len_at_least)) c.queued-item.is c.requires.from c.number-number.ensures.number c.is_deliverable.ensures.deliverable None (ap (λ (b : Bool). if b then Some c.number-number.result else None) (sym c.if-is_deliverable.false));
      first = tt;
    }
