use Rattle.std.proofs.Common.{◌∙◌, refl, sym, subst, List, arith, drop, length}
use Rattle.core_queue.specs.declared.updates.QueuedUpdate.{QueuedUpdate}
use Rattle.core_engine.specs.Known.{IsKnown}
use Rattle.core_engine.proofs.Small.{front}
use Rattle.core_engine.proofs.Making.{some_number, ready_within, ready_numbers, ready_placed, left_placed, held_placed, snapshot_update, snapshot_step}
use Rattle.core_engine.proofs.Placing.{if_ok}
use Rattle.core_engine.proofs.Unread.{as_before}
use Rattle.core_engine.proofs.cores.Core.next_plan.Goals as goal

pub place_of-place-requires : goal.place_of-place-requires
place_of-place-requires c = some_number c.args.self.now c.args.update _ c.requires.ready

pub plan_at-requires-clause-place : goal.plan_at-requires-clause-place
plan_at-requires-clause-place c =
    ready_within _ c.self.inside.versions c.self.inside.queue.items _ _ c.self.invariant.0 c.self.view_is c.args.update c.requires.ready c.place_of-place.result c.place_of-place.ensures c.deref_mut.result.now c.deref_mut.ensures.value

pub plan_at-requires-clause-numbers : goal.plan_at-requires-clause-numbers
plan_at-requires-clause-numbers c =
    ready_numbers _ c.self.inside.versions c.self.inside.queue.items _ _ c.self.invariant.0 c.self.view_is c.args.update c.requires.ready c.place_of-place.result c.place_of-place.ensures c.deref_mut.result.now c.deref_mut.ensures.value

pub plan_at-requires-clause-ready : goal.plan_at-requires-clause-ready
plan_at-requires-clause-ready c =
    ready_placed _ c.self.inside.versions c.self.inside.queue.items _ _ c.self.invariant.0 c.self.view_is c.args.update c.requires.ready c.place_of-place.result c.place_of-place.ensures c.deref_mut.result.now c.deref_mut.ensures.value

pub plan_at-requires-clause-left : goal.plan_at-requires-clause-left
plan_at-requires-clause-left c =
    left_placed _ c.self.inside.versions c.self.inside.queue.items _ _ c.self.invariant.0 c.self.view_is c.args.update c.requires.ready c.place_of-place.result c.place_of-place.ensures c.deref_mut.result.now c.deref_mut.ensures.value

pub plan_at-requires-clause-held : goal.plan_at-requires-clause-held
plan_at-requires-clause-held c =
    held_placed _ c.self.inside.versions c.self.inside.queue.items _ _ c.self.invariant.0 c.self.view_is c.args.update c.requires.ready c.place_of-place.result c.place_of-place.ensures c.deref_mut.result.now c.deref_mut.ensures.value

pub plan_at-requires-clause-known : goal.plan_at-requires-clause-known
plan_at-requires-clause-known c = subst (λ (rs : List QueuedUpdate). IsKnown c.self.inside.mappings c.self.inside.versions rs c.self.inside.known) (sym c.deref_mut.ensures.value) c.self.invariant.4

pub returns-clause-update : goal.returns-clause-update
returns-clause-update c =
    if_ok c.plan_at.result _ _
    (λ plan planned. snapshot_update _ c.self.inside.versions c.self.inside.queue.items _ _ c.self.invariant.0 c.self.view_is c.args.update c.requires.ready c.place_of-place.result c.place_of-place.ensures c.deref_mut.result.now c.deref_mut.ensures.value
    _ refl plan planned)
    c.plan_at.ensures.planned

pub returns-clause-step : goal.returns-clause-step
returns-clause-step c =
    if_ok c.plan_at.result _ _
    (λ plan planned. snapshot_step _ c.self.inside.versions c.self.inside.queue.items _ _ c.self.invariant.0 c.self.view_is c.args.update c.requires.ready c.place_of-place.result c.place_of-place.ensures c.deref_mut.result.now c.deref_mut.ensures.value
    _ refl plan planned)
    c.plan_at.ensures.planned

pub invariant_of-self : goal.invariant_of-self
invariant_of-self c =
    let back = front c.plan_at.new.queue (drop (length c.plan_at.new.queue) c.self.inside.queue.items) c.self.inside.queue.len (omega arith) ∙ c.plan_at.ensures.same in
    let before = as_before _ _ _ _ _ _ _ _ _ (back ∙ c.deref_mut.ensures.value) (c.self.invariant.0, c.self.invariant.1, c.self.invariant.2, c.self.invariant.3, c.self.invariant.4) in
    (before.0, before.1, before.2, before.3, subst (λ (rs : List QueuedUpdate). IsKnown c.self.inside.mappings c.self.inside.versions rs c.plan_at.new.known) (sym back) c.plan_at.ensures.known, c.self.invariant.5)
