use Rattle.audit_updates.specs.Settings.{settings_of}
use Rattle.cmd_plain.proofs.Audits.{placed}
use Rattle.cmd_plain.proofs.Fronts.{short}
use Rattle.cmd_plain.proofs.auditing.AuditCommand.run.Goals as goal

pub run-requires : goal.run-requires
run-requires c = record { short = short c.args.input.now c.session_part.result.0.now c.session_part.ensures.session c.requires.short }

pub returns : goal.returns
returns c =
    placed c.args.self.now.terms.budget (settings_of c.args.self.now.terms.settings) c.args.input.now _ _ _ c.session_part.ensures.session c.session_part.ensures.rest c.run.ensures
