use Rattle.core_engine.proofs.Arriving.{new_by}
use Rattle.core_engine.proofs.admissions.prepare_admission.Goals as goal

pub returns-clause-new : goal.returns-clause-new
returns-clause-new c =
    new_by c.args.number c.args.update.now c.new-none.result c.args.queue.now.items c.push.new.self.items c.in_ok-queued.queued c.new-none.ensures.empty c.in_ok-queued.ensures.admitted c.in_ok-queued.ensures.place
    c.in_ok-push.ensures.items
