use Rattle.std.proofs.Common.{refl}
use Rattle.core_engine.proofs.Making.{some_number, ready_within, ready_numbers, ready_placed, left_placed, held_placed, snapshot_update, snapshot_step}
use Rattle.core_engine.proofs.cores.Core.snapshot.Goals as goal

pub place_of-place-requires : goal.place_of-place-requires
place_of-place-requires c = some_number c.args.self.now c.args.update _ c.requires.ready

pub snapshot_at-requires-clause-place : goal.snapshot_at-requires-clause-place
snapshot_at-requires-clause-place c =
    ready_within _ c.self.inside.versions c.self.inside.queue.items _ _ c.self.invariant.0 c.self.view_is c.args.update c.requires.ready c.place_of-place.result c.place_of-place.ensures c.deref.result.now c.deref.ensures.value

pub snapshot_at-requires-clause-numbers : goal.snapshot_at-requires-clause-numbers
snapshot_at-requires-clause-numbers c =
    ready_numbers _ c.self.inside.versions c.self.inside.queue.items _ _ c.self.invariant.0 c.self.view_is c.args.update c.requires.ready c.place_of-place.result c.place_of-place.ensures c.deref.result.now c.deref.ensures.value

pub snapshot_at-requires-clause-ready : goal.snapshot_at-requires-clause-ready
snapshot_at-requires-clause-ready c =
    ready_placed _ c.self.inside.versions c.self.inside.queue.items _ _ c.self.invariant.0 c.self.view_is c.args.update c.requires.ready c.place_of-place.result c.place_of-place.ensures c.deref.result.now c.deref.ensures.value

pub snapshot_at-requires-clause-left : goal.snapshot_at-requires-clause-left
snapshot_at-requires-clause-left c =
    left_placed _ c.self.inside.versions c.self.inside.queue.items _ _ c.self.invariant.0 c.self.view_is c.args.update c.requires.ready c.place_of-place.result c.place_of-place.ensures c.deref.result.now c.deref.ensures.value

pub snapshot_at-requires-clause-held : goal.snapshot_at-requires-clause-held
snapshot_at-requires-clause-held c =
    held_placed _ c.self.inside.versions c.self.inside.queue.items _ _ c.self.invariant.0 c.self.view_is c.args.update c.requires.ready c.place_of-place.result c.place_of-place.ensures c.deref.result.now c.deref.ensures.value

pub returns-clause-update : goal.returns-clause-update
returns-clause-update c =
    snapshot_update _ c.self.inside.versions c.self.inside.queue.items _ _ c.self.invariant.0 c.self.view_is c.args.update c.requires.ready c.place_of-place.result c.place_of-place.ensures c.deref.result.now c.deref.ensures.value
    _ refl c.in_ok-snapshot.snapshot c.in_ok-snapshot.ensures.taken

pub returns-clause-step : goal.returns-clause-step
returns-clause-step c =
    snapshot_step _ c.self.inside.versions c.self.inside.queue.items _ _ c.self.invariant.0 c.self.view_is c.args.update c.requires.ready c.place_of-place.result c.place_of-place.ensures c.deref.result.now c.deref.ensures.value
    _ refl c.in_ok-snapshot.snapshot c.in_ok-snapshot.ensures.taken

pub snapshot_at-requires-clause-within : goal.snapshot_at-requires-clause-within
snapshot_at-requires-clause-within c = c.self.invariant.0.within
