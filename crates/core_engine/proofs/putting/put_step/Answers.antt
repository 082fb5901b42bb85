use Rattle.std.proofs.Common.{ap, sym, ◌∙◌}
use Rattle.core_queue.specs.declared.updates.QueuedUpdate.{QueuedUpdate}
use Rattle.core_queue.specs.Settings.{settings_of}
use Rattle.core_engine.proofs.Following.{steps_to}
use Rattle.core_engine.proofs.Telling.{there_is}
use Rattle.core_queue.proofs.Walking.{commits_so}
use Rattle.core_engine.proofs.Committing.{fewer_committed}
use Rattle.core_engine.proofs.putting.put_step.Goals as goal

pub returns-clause-made : goal.returns-clause-made
returns-clause-made c = λ ms before after prepared.
    steps_to ms (settings_of c.args.settings) c.args.place c.args.history.now.items c.put_last.new.history.items c.args.queue.now c.install.new.queue before after
    c.index-queue-place.result c.args.plan c.args.prepared c.attempt-attempt.result c.step_entry-entry.result
    (there_is c.args.queue.now c.args.place c.index-queue-place.result c.requires.place c.index-queue-place.is)
    prepared c.install.ensures.installed c.install.ensures.numbers c.install.ensures.long (c.attempt-attempt.ensures.attempt ∙ ap (λ (r : QueuedUpdate). r.program.attempt.attempt) (sym c.index-queue-place.is)) c.step_entry-entry.ensures.told c.put_last.ensures.all

pub committed_from-committed-requires-clause-least : goal.committed_from-committed-requires-clause-least
committed_from-committed-requires-clause-least c =
    c.install.ensures.least c.least_below.result c.least_below.ensures.below (fewer_committed c.args.queue.now c.args.least c.least_below.result c.least_below.ensures.least c.requires.least)

pub returns-clause-committed : goal.returns-clause-committed
returns-clause-committed c = commits_so c.install.new.queue c.committed_from-committed.result c.committed_from-committed.ensures.committed
