use Rattle.std.proofs.Common.{◌∙◌, ap, sym, Option}
use Rattle.std.specs.Prelude.{if◌then◌else◌, is_some}
use Rattle.def_machine.specs.Cascade.{begun_again}
use Rattle.chase_update.specs.Courses.{State}
use Rattle.def_steps.specs.Chase.{caused_chase}
use Rattle.core_queue.specs.Queues.{update_of}
use Rattle.core_queue.proofs.updates.QueuedUpdate.restart_if.Goals as goal

pub returns-in-Some-clause-restarted : goal.returns-in-Some-clause-restarted
returns-in-Some-clause-restarted c = λ ms B.
    let r = c.args.self.now in
    c.restart.ensures.restarted ms B
    ∙ ap (λ (f : Option State). if is_some f then begun_again (caused_chase ms B) r.program.attempt.number (update_of ms B r) else update_of ms B r) (sym c.in-Some.is)
