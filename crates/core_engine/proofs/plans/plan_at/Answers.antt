use Rattle.std.proofs.Common.{◌∙◌, ap, subst, sym}
use Rattle.std.proofs.lemmas.Option.{same_Some}
use Rattle.core_queue.specs.declared.updates.QueuedUpdate.{QueuedUpdate}
use Rattle.core_engine.specs.Taken.{IsSnapshotOf}
use Rattle.core_engine.proofs.Following.{stands_at}
use Rattle.core_engine.proofs.Marking.{marks_here, marks_there, none_known}
use Rattle.core_engine.proofs.Placing.{if_ok, on_either}
use Rattle.core_engine.proofs.Telling.{lent_back, lent_there, there_is}
use Rattle.core_engine.proofs.plans.plan_at.Goals as goal

pub plan_of-requires-clause-between : goal.plan_of-requires-clause-between
plan_of-requires-clause-between c =
    let spot = lent_there c.args.queue.now c.args.place c.index-queue-place.result c.branch-queue.new.self c.index-queue-place-2.result c.requires.place c.index-queue-place.is c.branch-queue.ensures.stays c.index-queue-place-2.is in
    (stands_at c.args.queue.now 1 c.args.place _ c.requires.numbers spot).between

pub plan_of-requires-clause-branch : goal.plan_of-requires-clause-branch
plan_of-requires-clause-branch c =
    let spot = lent_there c.args.queue.now c.args.place c.index-queue-place.result c.branch-queue.new.self c.index-queue-place-2.result c.requires.place c.index-queue-place.is c.branch-queue.ensures.stays c.index-queue-place-2.is in
    c.in_ok-branch.ensures.same
    ∙ ap (λ (q : QueuedUpdate). q.program) (sym c.index-queue-place.is ∙ same_Some c.index-queue-place.result _ (sym (there_is c.args.queue.now c.args.place c.index-queue-place.result c.requires.place c.index-queue-place.is) ∙ spot))

pub plan_of-requires-clause-ready : goal.plan_of-requires-clause-ready
plan_of-requires-clause-ready c =
    let spot = lent_there c.args.queue.now c.args.place c.index-queue-place.result c.branch-queue.new.self c.index-queue-place-2.result c.requires.place c.index-queue-place.is c.branch-queue.ensures.stays c.index-queue-place-2.is in
    c.requires.ready _ spot

pub plan_of-requires-clause-left : goal.plan_of-requires-clause-left
plan_of-requires-clause-left c =
    let spot = lent_there c.args.queue.now c.args.place c.index-queue-place.result c.branch-queue.new.self c.index-queue-place-2.result c.requires.place c.index-queue-place.is c.branch-queue.ensures.stays c.index-queue-place-2.is in
    c.requires.left _ spot

pub plan_of-requires-clause-held : goal.plan_of-requires-clause-held
plan_of-requires-clause-held c =
    let spot = lent_there c.args.queue.now c.args.place c.index-queue-place.result c.branch-queue.new.self c.index-queue-place-2.result c.requires.place c.index-queue-place.is c.branch-queue.ensures.stays c.index-queue-place-2.is in
    c.requires.held _ spot

pub plan_of-requires-clause-known : goal.plan_of-requires-clause-known
plan_of-requires-clause-known c =
    let spot = lent_there c.args.queue.now c.args.place c.index-queue-place.result c.branch-queue.new.self c.index-queue-place-2.result c.requires.place c.index-queue-place.is c.branch-queue.ensures.stays c.index-queue-place-2.is in
    marks_here c.args.mappings.now c.args.versions.now c.args.queue.now c.args.known.now c.args.place _ c.requires.numbers spot c.requires.known

pub returns-clause-planned : goal.returns-clause-planned
returns-clause-planned c =
    let spot = lent_there c.args.queue.now c.args.place c.index-queue-place.result c.branch-queue.new.self c.index-queue-place-2.result c.requires.place c.index-queue-place.is c.branch-queue.ensures.stays c.index-queue-place-2.is in
    if_ok c.plan_of.result _ _
    (λ plan planned r spot'. subst (λ (q : QueuedUpdate). IsSnapshotOf c.args.mappings.now c.args.budget c.args.versions.now q plan) (same_Some _ r (sym spot ∙ spot')) planned)
    c.plan_of.ensures.planned

pub returns-clause-known : goal.returns-clause-known
returns-clause-known c =
    let spot = lent_there c.args.queue.now c.args.place c.index-queue-place.result c.branch-queue.new.self c.index-queue-place-2.result c.requires.place c.index-queue-place.is c.branch-queue.ensures.stays c.index-queue-place-2.is in
    on_either c.plan_of.result _ _ _
    (λ are. marks_there c.args.mappings.now c.args.versions.now c.args.queue.now c.plan_of.new.known c.args.place _ c.requires.numbers spot are)
    (λ none. none_known c.args.mappings.now c.args.versions.now c.args.queue.now c.plan_of.new.known none)
    c.plan_of.ensures.known c.plan_of.ensures.none

pub returns-clause-same : goal.returns-clause-same
returns-clause-same c =
    lent_back c.args.queue.now c.args.place c.index-queue-place.result c.branch-queue.new.self c.requires.place c.index-queue-place.is c.branch-queue.ensures.stays

pub returns-in_err-branch-clause-same : goal.returns-in_err-branch-clause-same
returns-in_err-branch-clause-same c =
    lent_back c.args.queue.now c.args.place c.index-queue-place.result c.branch-queue.new.self c.requires.place c.index-queue-place.is c.branch-queue.ensures.stays
