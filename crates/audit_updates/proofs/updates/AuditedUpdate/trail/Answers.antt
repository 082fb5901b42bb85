use Rattle.std.proofs.Common.{◌∙◌, ap, sym, Bool, []}
use Rattle.std.specs.Prelude.{if◌then◌else◌}
use Rattle.def_machine.specs.Updates.{shown}
use Rattle.def_steps.specs.Chase.{caused_chase}
use Rattle.audit_updates.proofs.updates.AuditedUpdate.trail.Goals as goal

pub returns : goal.returns
returns c = record {
  trail = λ ms B. c.shown.ensures.shown ms B ∙ ap (λ (b : Bool). if b then [] else shown (caused_chase ms B) c.args.self.now.program.attempt) (sym c.if-self.false);
}
