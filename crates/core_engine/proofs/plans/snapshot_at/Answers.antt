use Rattle.std.proofs.Common.{subst, sym, ◌∙◌}
use Rattle.std.proofs.lemmas.Option.{same_Some}
use Rattle.core_queue.specs.declared.updates.QueuedUpdate.{QueuedUpdate}
use Rattle.core_engine.specs.Taken.{IsSnapshotOf}
use Rattle.core_engine.proofs.Telling.{there_is, between_there}
use Rattle.core_engine.proofs.plans.snapshot_at.Goals as goal

pub snapshot_of-requires-clause-between : goal.snapshot_of-requires-clause-between
snapshot_of-requires-clause-between c = between_there c.args.queue.now c.args.place c.index-queue-place.result c.requires.numbers c.requires.place c.index-queue-place.is

pub snapshot_of-requires-clause-ready : goal.snapshot_of-requires-clause-ready
snapshot_of-requires-clause-ready c =
    c.requires.ready c.index-queue-place.result (there_is c.args.queue.now c.args.place c.index-queue-place.result c.requires.place c.index-queue-place.is)

pub snapshot_of-requires-clause-left : goal.snapshot_of-requires-clause-left
snapshot_of-requires-clause-left c =
    c.requires.left c.index-queue-place.result (there_is c.args.queue.now c.args.place c.index-queue-place.result c.requires.place c.index-queue-place.is)

pub snapshot_of-requires-clause-held : goal.snapshot_of-requires-clause-held
snapshot_of-requires-clause-held c =
    c.requires.held c.index-queue-place.result (there_is c.args.queue.now c.args.place c.index-queue-place.result c.requires.place c.index-queue-place.is)

pub returns : goal.returns
returns c =
    record {
      taken =
          λ r spot. subst (λ (q : QueuedUpdate). IsSnapshotOf c.args.mappings.now c.args.budget c.args.versions.now q c.in_ok-snapshot.snapshot)
          (same_Some c.index-queue-place.result r (sym (there_is c.args.queue.now c.args.place c.index-queue-place.result c.requires.place c.index-queue-place.is) ∙ spot))
          c.in_ok-snapshot.ensures.taken;
    }
