use Rattle.std.proofs.Common.{subst, sym, ◌≤◌, ℕ, suc, List, Option, drop, length}
use Rattle.chase_update.specs.Courses.{State}
use Rattle.core_queue.specs.Renewals.{AreFresh}
use Rattle.core_queue.specs.Settings.{settings_of}
use Rattle.core_queue.specs.Order.{ReadsAtMost}
use Rattle.core_queue.specs.declared.updates.QueuedUpdate.{QueuedUpdate}
use Rattle.core_engine.proofs.Placing.{if_ok, above_numbers, above_more, above_fresh, above_prepared}
use Rattle.core_engine.proofs.Telling.{between_there}
use Rattle.core_engine.proofs.stepping.prepare_at.Goals as goal

pub prepare-requires-clause-between : goal.prepare-requires-clause-between
prepare-requires-clause-between c = between_there c.args.queue.now c.args.place c.index-queue-place.result c.requires.numbers c.requires.place c.index-queue-place.is

pub prepare-requires-clause-numbers : goal.prepare-requires-clause-numbers
prepare-requires-clause-numbers c =
    above_numbers c.args.queue.now c.above-upper.result.now c.args.place c.index-queue-place.result c.requires.numbers c.requires.place c.index-queue-place.is c.above-upper.ensures.rest

pub prepare-requires-clause-more : goal.prepare-requires-clause-more
prepare-requires-clause-more c = above_more c.args.queue.now c.above-upper.result.now c.args.place c.requires.more c.above-upper.ensures.rest

pub returns-clause-prepared : goal.returns-clause-prepared
returns-clause-prepared c =
    if_ok c.prepare.result _ _
    (λ prepared is. above_prepared c.args.scene.now.mappings.now (settings_of c.args.scene.now.settings) c.committed_from-committed.result c.args.place c.args.versions.now c.prepare.new.versions c.args.queue.now c.above-upper.result.now c.index-queue-place.result c.args.plan.now
    prepared c.requires.numbers c.requires.place c.index-queue-place.is c.above-upper.ensures.rest c.committed_from-committed.ensures.committed is)
    c.prepare.ensures.prepared

pub returns-clause-fresh : goal.returns-clause-fresh
returns-clause-fresh c =
    if_ok c.prepare.result _ _
    (λ prepared fresh. above_fresh c.args.queue.now c.above-upper.result.now c.args.place prepared.left.fresh.items c.above-upper.ensures.rest fresh)
    c.prepare.ensures.fresh

pub prepare-requires-clause-read : goal.prepare-requires-clause-read
prepare-requires-clause-read c = subst (λ (rs : List QueuedUpdate). ReadsAtMost rs c.readers_above-readers.result) (sym c.above-upper.ensures.rest) c.readers_above-readers.ensures.read

pub prepare-requires-clause-within : goal.prepare-requires-clause-within
prepare-requires-clause-within c = subst (λ (rs : List QueuedUpdate). c.readers_above-readers.result ≤ length rs) (sym c.above-upper.ensures.rest) c.readers_above-readers.ensures.within

pub prepare_alone-requires-clause-between : goal.prepare_alone-requires-clause-between
prepare_alone-requires-clause-between c = between_there c.args.queue.now c.args.place c.index-queue-place.result c.requires.numbers c.requires.place c.index-queue-place.is

pub returns-then-is_alone-clause-prepared : goal.returns-then-is_alone-clause-prepared
returns-then-is_alone-clause-prepared c =
    let unread : ReadsAtMost c.above-upper.result.now 0 =
    subst (λ (n : ℕ). ReadsAtMost c.above-upper.result.now n) (c.is_alone.ensures.unread c.if-is_alone.true)
    (subst (λ (rs : List QueuedUpdate). ReadsAtMost rs c.readers_above-readers.result) (sym c.above-upper.ensures.rest) c.readers_above-readers.ensures.read) in
    if_ok c.prepare_alone.result _ _
    (λ prepared is. above_prepared c.args.scene.now.mappings.now (settings_of c.args.scene.now.settings) c.committed_from-committed.result c.args.place c.args.versions.now c.prepare_alone.new.versions c.args.queue.now c.above-upper.result.now c.index-queue-place.result c.args.plan.now
    prepared c.requires.numbers c.requires.place c.index-queue-place.is c.above-upper.ensures.rest c.committed_from-committed.ensures.committed
    (is c.args.scene.now.mappings.now (settings_of c.args.scene.now.settings) c.committed_from-committed.result c.above-upper.result.now
    (above_numbers c.args.queue.now c.above-upper.result.now c.args.place c.index-queue-place.result c.requires.numbers c.requires.place c.index-queue-place.is c.above-upper.ensures.rest) unread))
    c.prepare_alone.ensures.prepared

pub returns-then-is_alone-clause-fresh : goal.returns-then-is_alone-clause-fresh
returns-then-is_alone-clause-fresh c =
    if_ok c.prepare_alone.result _ _
    (λ prepared none. subst (λ (fs : List (Option State)). AreFresh (drop (suc c.args.place) c.args.queue.now) fs) (sym none) tt)
    c.prepare_alone.ensures.fresh
