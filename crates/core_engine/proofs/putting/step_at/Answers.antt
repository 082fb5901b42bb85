use Rattle.core_queue.specs.Settings.{settings_of}
use Rattle.core_engine.proofs.Delivering.{same_plan, steps_from}
use Rattle.core_engine.proofs.Committing.{same_committed, same_unready}
use Rattle.core_engine.proofs.Unread.{same_unread}
use Rattle.core_engine.proofs.Marking.{same_grows}
use Rattle.core_engine.proofs.putting.step_at.Goals as goal

pub put_step-requires-clause-plan : goal.put_step-requires-clause-plan
put_step-requires-clause-plan c = same_plan c.args.queue.now c.ready_step.new.queue c.args.place c.args.plan c.ready_step.ensures.same.updates c.requires.plan

pub put_step-requires-clause-least : goal.put_step-requires-clause-least
put_step-requires-clause-least c = same_committed c.args.queue.now c.ready_step.new.queue c.args.scene.now.least c.ready_step.ensures.same c.requires.least

pub returns-in-Ok-clause-made : goal.returns-in-Ok-clause-made
returns-in-Ok-clause-made c =
    steps_from c.args.scene.now.mappings.now (settings_of c.args.scene.now.settings) c.args.place c.args.plan c.args.versions.now c.ready_step.new.versions c.args.queue.now c.ready_step.new.queue c.put_step.new.queue c.args.history.now.items
    c.ready_step.new.history.items c.put_step.new.history.items c.ready_step.ensures.same c.ready_step.ensures.long c.ready_step.ensures.history (c.put_step.ensures.made c.args.scene.now.mappings.now c.args.versions.now c.ready_step.new.versions c.in-Ok.ensures.prepared)

pub returns-in-Ok-clause-most : goal.returns-in-Ok-clause-most
returns-in-Ok-clause-most c = λ n l h. c.put_step.ensures.most n l (same_unread c.args.queue.now c.ready_step.new.queue n c.ready_step.ensures.same h)

pub returns-in-Ok-clause-unready : goal.returns-in-Ok-clause-unready
returns-in-Ok-clause-unready c = λ n l h. c.put_step.ensures.unready n l (same_unready c.args.queue.now c.ready_step.new.queue n c.ready_step.ensures.same h)

pub returns-in-Ok-clause-grows : goal.returns-in-Ok-clause-grows
returns-in-Ok-clause-grows c = same_grows c.args.queue.now c.ready_step.new.queue c.put_step.new.queue c.args.place c.ready_step.ensures.same c.put_step.ensures.grows
