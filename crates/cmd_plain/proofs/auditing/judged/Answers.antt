use Rattle.audit_updates.specs.Settings.{settings_of}
use Rattle.lang_session.specs.Meanings.{session_of}
use Rattle.cmd_plain.proofs.Audits.{after_own}
use Rattle.cmd_plain.proofs.auditing.judged.Goals as goal

pub returns-then-branch : goal.returns-then-branch
returns-then-branch c = record {
  audited =
      after_own c.args.terms.budget (settings_of c.args.terms.settings) (session_of c.args.session.now) c.args.rest.now c.in-Some.result.now c.in-Some.trace.now
      c.in-Some.ensures.some c.in-Some.ensures.result c.on_trace-then-branch.result c.in-Some.ensures.rest (c.in_ok-is_own_result.ensures.same.0 c.if-branch.true)
      c.on_trace-then-branch.ensures.judged;
}
