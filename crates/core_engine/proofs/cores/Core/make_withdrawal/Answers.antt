use Rattle.std.proofs.Common.{subst, sym, refl, arith, length, drop, map, List}
use Rattle.core_entries.specs.Meanings.{entry_of}
use Rattle.def_machine.specs.Effects.{Withdraws}
use Rattle.core_queue.specs.Queues.{AreFrom}
use Rattle.core_queue.specs.Renewals.{AllHaveOneMore}
use Rattle.core_queue.specs.Settings.{settings_of}
use Rattle.core_queue.specs.declared.updates.QueuedUpdate.{QueuedUpdate}
use Rattle.def_chase.specs.Mappings.{Rule}
use Rattle.core_engine.specs.Withdrawals.{WithdrawsTo}
use Rattle.core_engine.proofs.Losing.{live_number, live_within, core_withdraws, same_all}
use Rattle.core_engine.proofs.Making.{some_number, all_one_more, kept_ok, kept_err, has_made}
use Rattle.core_engine.proofs.Unread.{with_nothing_noted, with_origin}
use Rattle.core_engine.proofs.cores.Core.make_withdrawal.Goals as goal

pub place_of-place-requires : goal.place_of-place-requires
place_of-place-requires c = let x = live_number c.args.self.now c.args.update c.requires.live in some_number c.args.self.now c.args.update x.0 x.1

pub withdraw_at-requires-clause-place : goal.withdraw_at-requires-clause-place
withdraw_at-requires-clause-place c =
    live_within _ c.self.inside.versions c.self.inside.queue.items c.self.inside.history.items _ c.self.invariant.0 c.self.view_is c.args.update c.requires.live c.place_of-place.result c.place_of-place.ensures c.deref_mut.result.now
    c.deref_mut.ensures.value

pub withdraw_at-requires-clause-numbers : goal.withdraw_at-requires-clause-numbers
withdraw_at-requires-clause-numbers c = subst (λ (rs : List QueuedUpdate). AreFrom 1 rs) (sym c.deref_mut.ensures.value) c.self.invariant.0.numbers

pub withdraw_at-requires-clause-more : goal.withdraw_at-requires-clause-more
withdraw_at-requires-clause-more c = subst (λ (rs : List QueuedUpdate). AllHaveOneMore rs) (sym c.deref_mut.ensures.value) (all_one_more _ c.self.inside.versions c.self.inside.queue.items _ c.self.invariant.0)

pub invariant_of-self : goal.invariant_of-self
invariant_of-self c =
    with_origin (with_nothing_noted _ _ _ _ (record { update = 0; made = c.self.inside.known.made; marks = c.self.inside.known.marks }) refl
    (kept_err _ c.self.inside.versions c.withdraw_at.new.versions c.self.inside.queue.items c.deref_mut.result.now c.withdraw_at.new.queue (drop (length c.withdraw_at.new.queue) c.self.inside.queue.items) c.self.inside.queue.len
    c.self.inside.history.items c.withdraw_at.new.history.items (omega arith) c.self.invariant.0 c.deref_mut.ensures.value c.in_err-withdraw_at.ensures.versions
    (same_all c.deref_mut.result.now c.withdraw_at.new.queue c.in_err-withdraw_at.ensures.queue) c.withdraw_at.ensures.long c.in_err-withdraw_at.ensures.history)) c.self.invariant.5

pub invariant_of-self-2 : goal.invariant_of-self-2
invariant_of-self-2 c =
    with_origin (with_nothing_noted _ _ _ _ (record { update = 0; made = c.self.inside.known.made; marks = c.self.inside.known.marks }) refl
    (kept_ok _ c.withdraw_at.new.versions c.withdraw_at.new.queue (drop (length c.withdraw_at.new.queue) c.self.inside.queue.items) c.self.inside.queue.len (map entry_of c.withdraw_at.new.history.items) (omega arith)
    (core_withdraws _ c.self.inside.versions c.self.inside.queue.items c.self.inside.history.items _ c.self.invariant.0 c.self.view_is c.args.update c.requires.live c.place_of-place.result c.place_of-place.ensures c.deref_mut.result.now
    c.deref_mut.ensures.value c.withdraw_at.new.versions c.withdraw_at.new.queue c.withdraw_at.new.history.items (subst (λ (ms : List Rule). WithdrawsTo ms (settings_of c.self.inside.settings) c.place_of-place.result c.self.inside.versions c.deref_mut.result.now c.self.inside.history.items
    c.withdraw_at.new.versions c.withdraw_at.new.queue c.withdraw_at.new.history.items) c.all.ensures.rules c.in_ok-withdraw_at.ensures.made)).kept)) c.self.invariant.5

pub returns-clause-made : goal.returns-clause-made
returns-clause-made c =
    has_made (λ g. Withdraws c.args.update) _ c.withdraw_at.new.versions c.withdraw_at.new.queue (map entry_of c.self.inside.history.items) (map entry_of c.withdraw_at.new.history.items) c.args.self.now _ c.self.view_is refl
    (core_withdraws _ c.self.inside.versions c.self.inside.queue.items c.self.inside.history.items _ c.self.invariant.0 c.self.view_is c.args.update c.requires.live c.place_of-place.result c.place_of-place.ensures c.deref_mut.result.now
    c.deref_mut.ensures.value c.withdraw_at.new.versions c.withdraw_at.new.queue c.withdraw_at.new.history.items (subst (λ (ms : List Rule). WithdrawsTo ms (settings_of c.self.inside.settings) c.place_of-place.result c.self.inside.versions c.deref_mut.result.now c.self.inside.history.items
    c.withdraw_at.new.versions c.withdraw_at.new.queue c.withdraw_at.new.history.items) c.all.ensures.rules c.in_ok-withdraw_at.ensures.made))
