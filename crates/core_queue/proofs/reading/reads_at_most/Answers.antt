use Rattle.std.proofs.Common.{◌≡◌, ◌<◌, ◌-◌, sym, subst, ℕ, suc, length, arith}
use Rattle.core_queue.proofs.Unread.{one_fewer}
use Rattle.core_queue.specs.Order.{ReadsAtMost}
use Rattle.core_queue.proofs.reading.reads_at_most.Goals as goal

pub updates-preserved : goal.updates-preserved
updates-preserved c =
    let t = c.updates-test.true in
    let w = c.updates.invariant.within in
    let one : c.updates.count ≡ suc (c.updates.count - 1) = omega (arith, t) in
    let l : c.updates.count - 1 < length c.args.queue.now = omega (arith, t, w) in
    record {
      most =
          one_fewer c.args.queue.now c.updates.count (c.updates.count - 1) c.index-queue-count.result one l (sym c.index-queue-count.is) (c.has_read.ensures.read c.if-has_read.false)
          c.updates.invariant.most;
      within = omega (arith, w);
    }

pub returns-clause-most : goal.returns-clause-most
returns-clause-most c =
    let none : c.updates.count ≡ 0 = (let f = c.updates-test.false in omega (arith, f)) in
    subst (λ (k : ℕ). ReadsAtMost c.args.queue.now k) none c.updates.invariant.most
