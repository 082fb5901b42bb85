use Rattle.std.proofs.Common.{ℕ, suc, ◌+◌, drop, Option}
use Rattle.core_queue.specs.Settings.{settings_of}
use Rattle.core_queue.specs.Queues.{AreFrom}
use Rattle.core_queue.specs.Order.{IsFirstReady}
use Rattle.core_queue.proofs.order.first_ready.Given as goal

abbrev pub invariant-loop-queued : goal.invariant-loop-queued
invariant-loop-queued l = record {
  from : AreFrom (l.queued-index + suc l.committed) (drop l.queued-index l.rest);
  left : (o : Option ℕ) → IsFirstReady (settings_of l.settings) l.committed (l.queued-index + suc l.committed) (drop l.queued-index l.rest) o → IsFirstReady (settings_of l.settings) l.committed (suc l.committed) l.rest o;
}
