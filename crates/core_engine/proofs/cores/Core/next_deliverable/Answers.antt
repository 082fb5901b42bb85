use Rattle.std.proofs.Common.{◌≡◌, subst, sym, ℕ, List, Option, Some, None}
use Rattle.std.specs.Prelude.{IfSome}
use Rattle.core_queue.specs.Settings.{settings_of}
use Rattle.core_queue.specs.declared.updates.QueuedUpdate.{QueuedUpdate}
use Rattle.core_queue.specs.Order.{CommitsAtLeast, IsLowestDeliverable, IsNextDeliverable}
use Rattle.core_engine.specs.States.{lowest_deliverable_at}
use Rattle.core_engine.proofs.Telling.{deliverable_told, next_told}
use Rattle.core_engine.proofs.cores.Core.next_deliverable.Goals as goal

pub next_deliverable-requires-clause-least : goal.next_deliverable-requires-clause-least
next_deliverable-requires-clause-least c = subst (λ (rs : List QueuedUpdate). CommitsAtLeast rs c.self.inside.least) (sym c.deref.ensures.value) c.self.invariant.1

pub returns : goal.returns
returns c = record {
  next = next_told _ _ c.self.inside.queue.items _ c.self.invariant.0.left c.self.view_is c.next_deliverable.result
      (subst (λ (rs : List QueuedUpdate). IsNextDeliverable (settings_of c.self.inside.settings) rs c.next_deliverable.result) c.deref.ensures.value c.next_deliverable.ensures.next);
  lowest = by c.next_deliverable.result c.next_deliverable.ensures.lowest;
}
  where
    by : (o : Option ℕ) → IfSome o (λ n. IsLowestDeliverable (settings_of c.self.inside.settings) c.deref.result.now (Some n)) → IfSome o (λ n. lowest_deliverable_at c.args.self.now ≡ Some n)
    by None f = tt
    by (Some n) f = sym (deliverable_told _ _ c.self.inside.queue.items _ c.self.invariant.0.left c.self.view_is (Some n)
        (subst (λ (rs : List QueuedUpdate). IsLowestDeliverable (settings_of c.self.inside.settings) rs (Some n)) c.deref.ensures.value f))
