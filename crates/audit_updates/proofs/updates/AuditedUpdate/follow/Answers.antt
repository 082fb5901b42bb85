use Rattle.std.proofs.Common.{◌∙◌, ap}
use Rattle.audit_updates.specs.Updates.{update_of}
use Rattle.audit_updates.specs.declared.updates.AuditedUpdate.{AuditedUpdate}
use Rattle.audit_updates.proofs.Following.{stepped_by}
use Rattle.audit_updates.proofs.updates.AuditedUpdate.follow.Goals as goal

pub returns-clause-stepped : goal.returns-clause-stepped
returns-clause-stepped c = λ ms B D p.
    let old : AuditedUpdate = c.args.self.now in
    ap (λ q. update_of ms B (record old { program = q; log = c.take_over.new.log })) c.renew.ensures.fresh
    ∙ stepped_by ms B D old c.args.plan _ p c.take_over.ensures.all
