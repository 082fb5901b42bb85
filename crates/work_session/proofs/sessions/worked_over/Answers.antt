use denote.Param.Send.{sendable}
use Rattle.std.proofs.Common.{sym}
use Rattle.std.proofs.lemmas.List.{length-map}
use Rattle.core_queue.specs.Settings.{settings_of}
use Rattle.lang_session.specs.Meanings.{session_of, update_of}
use Rattle.work_session.proofs.Running.{has_worked}
use Rattle.work_session.proofs.Sent.{seated_send}
use Rattle.work_session.proofs.sessions.worked_over.Goals as goal

pub run-requires-send-C : goal.run-requires-send-C
run-requires-send-C g c κs within = search (sendable, seated_send)

pub invariant_of-result : goal.invariant_of-result
invariant_of-result g c =
    has_worked (session_of c.args.session.now) c.args.working.budget (settings_of c.args.working.settings) _ c.in_ok-core.core c.new-seated.result c.in-Ok.seated c.into_core.result
    c.requires.valid c.requires.met (sym (length-map c.args.session.now.updates.items update_of)) c.in_ok-core.ensures.opened
    c.is_legal.ensures.budget c.is_legal.ensures.sorted c.is_legal.ensures.legal c.new-seated.ensures.core c.into_core.ensures.core c.in-Ok.ensures.over c.in-Ok.ensures.ends

pub returns-in-Ok-clause-whole : goal.returns-in-Ok-clause-whole
returns-in-Ok-clause-whole g c =
    (has_worked (session_of c.args.session.now) c.args.working.budget (settings_of c.args.working.settings) _ c.in_ok-core.core c.new-seated.result c.in-Ok.seated c.into_core.result
    c.requires.valid c.requires.met (sym (length-map c.args.session.now.updates.items update_of)) c.in_ok-core.ensures.opened
    c.is_legal.ensures.budget c.is_legal.ensures.sorted c.is_legal.ensures.legal c.new-seated.ensures.core c.into_core.ensures.core c.in-Ok.ensures.over c.in-Ok.ensures.ends).run
