use Rattle.std.proofs.Common.{refl, arith, length, drop, map, subst, sym, take, ◌++◌, List}
use Rattle.core_entries.specs.Meanings.{entry_of}
use Rattle.core_engine.proofs.Making.{some_number, pending_within, pending_numbers, core_delivers, kept_ok, kept_err, has_delivered}
use Rattle.core_engine.proofs.Committing.{fewer_committed, fewer_unready, least_ok, unready_ok}
use Rattle.core_engine.proofs.Marking.{none_known}
use Rattle.core_engine.proofs.Unread.{with_nothing_noted, with_origin, more_read, most_ok}
use Rattle.core_queue.specs.Order.{CommitsAtLeast, ReadsAtMost, UnreadyUpTo}
use Rattle.core_queue.specs.declared.updates.QueuedUpdate.{QueuedUpdate}
use Rattle.core_engine.proofs.cores.Core.make_delivery.Goals as goal

pub place_of-place-requires : goal.place_of-place-requires
place_of-place-requires c = some_number c.args.self.now c.args.update _ c.requires.pending

pub deliver_at-requires-clause-place : goal.deliver_at-requires-clause-place
deliver_at-requires-clause-place c =
    pending_within _ c.self.inside.versions c.self.inside.queue.items c.self.inside.history.items _ c.self.invariant.0 c.self.view_is c.args.update c.requires.pending c.place_of-place.result c.place_of-place.ensures c.deref_mut.result.now
    c.deref_mut.ensures.value

pub deliver_at-requires-clause-numbers : goal.deliver_at-requires-clause-numbers
deliver_at-requires-clause-numbers c =
    pending_numbers _ c.self.inside.versions c.self.inside.queue.items c.self.inside.history.items _ c.self.invariant.0 c.self.view_is c.args.update c.requires.pending c.place_of-place.result c.place_of-place.ensures c.deref_mut.result.now
    c.deref_mut.ensures.value

pub deliver_at-requires-clause-least : goal.deliver_at-requires-clause-least
deliver_at-requires-clause-least c =
    fewer_committed c.deref_mut.result.now c.self.inside.least c.least_below-least.result c.least_below-least.ensures.least
    (subst (λ (rs : List QueuedUpdate). CommitsAtLeast rs c.self.inside.least) (sym c.deref_mut.ensures.value) c.self.invariant.1)

pub invariant_of-self : goal.invariant_of-self
invariant_of-self c =
    with_origin (with_nothing_noted _ _ _ _ (record { update = 0; made = c.self.inside.known.made; marks = c.self.inside.known.marks }) refl
    (kept_err _ c.self.inside.versions c.self.inside.versions c.self.inside.queue.items c.deref_mut.result.now c.deliver_at.new.queue (drop (length c.deliver_at.new.queue) c.self.inside.queue.items) c.self.inside.queue.len
    c.self.inside.history.items c.deliver_at.new.history.items (omega arith) c.self.invariant.0 c.deref_mut.ensures.value refl c.in_err-deliver_at.ensures.queue c.deliver_at.ensures.long c.in_err-deliver_at.ensures.history)) c.self.invariant.5

pub invariant_of-self-2 : goal.invariant_of-self-2
invariant_of-self-2 c = (
  kept_ok _ c.self.inside.versions c.deliver_at.new.queue (drop (length c.deliver_at.new.queue) c.self.inside.queue.items) c.self.inside.queue.len (map entry_of c.deliver_at.new.history.items) (omega arith)
      (core_delivers _ c.self.inside.versions c.self.inside.queue.items c.self.inside.history.items _ c.self.invariant.0 c.self.view_is c.args.update c.requires.pending c.place_of-place.result c.place_of-place.ensures c.deref_mut.result.now
      c.deref_mut.ensures.value c.deliver_at.new.queue c.deliver_at.new.history.items c.requires.waits c.in_ok-deliver_at.ensures.made).kept,
  least_ok c.deliver_at.new.queue (drop (length c.deliver_at.new.queue) c.self.inside.queue.items) c.self.inside.queue.len c.least_below-least.result (omega arith)
      (c.in_ok-deliver_at.ensures.least c.least_below-least.result c.least_below-least.ensures.below
      (fewer_committed c.deref_mut.result.now c.self.inside.least c.least_below-least.result c.least_below-least.ensures.least (subst (λ (rs : List QueuedUpdate). CommitsAtLeast rs c.self.inside.least) (sym c.deref_mut.ensures.value) c.self.invariant.1))),
  most_ok c.deliver_at.new.queue (drop (length c.deliver_at.new.queue) c.self.inside.queue.items) c.self.inside.queue.len c.raised-most.result (omega arith)
      (c.in_ok-deliver_at.ensures.most c.raised-most.result (let u = c.raised-most.ensures.update in let p = c.place_of-place.ensures in omega (arith, u, p))
      (more_read c.deref_mut.result.now c.self.inside.most c.raised-most.result c.raised-most.ensures.most (subst (λ (rs : List QueuedUpdate). ReadsAtMost rs c.self.inside.most) (sym c.deref_mut.ensures.value) c.self.invariant.2))),
  unready_ok c.deliver_at.new.queue (drop (length c.deliver_at.new.queue) c.self.inside.queue.items) c.self.inside.queue.len c.lesser-unready.result (omega arith)
      (c.in_ok-deliver_at.ensures.unready c.lesser-unready.result c.lesser-unready.ensures.other
      (fewer_unready c.deref_mut.result.now c.self.inside.unready c.lesser-unready.result c.lesser-unready.ensures.one (subst (λ (rs : List QueuedUpdate). UnreadyUpTo rs c.self.inside.unready) (sym c.deref_mut.ensures.value) c.self.invariant.3))),
  none_known _ c.self.inside.versions (take c.self.inside.queue.len (c.deliver_at.new.queue ++ drop (length c.deliver_at.new.queue) c.self.inside.queue.items)) (record { update = 0; made = c.self.inside.known.made; marks = c.self.inside.known.marks }) refl,
  c.self.invariant.5,
)

pub returns-clause-made : goal.returns-clause-made
returns-clause-made c =
    has_delivered _ c.self.inside.versions c.deliver_at.new.queue (map entry_of c.self.inside.history.items) (map entry_of c.deliver_at.new.history.items) c.args.self.now _ c.args.update c.self.view_is refl
    (core_delivers _ c.self.inside.versions c.self.inside.queue.items c.self.inside.history.items _ c.self.invariant.0 c.self.view_is c.args.update c.requires.pending c.place_of-place.result c.place_of-place.ensures c.deref_mut.result.now
    c.deref_mut.ensures.value c.deliver_at.new.queue c.deliver_at.new.history.items c.requires.waits c.in_ok-deliver_at.ensures.made)
