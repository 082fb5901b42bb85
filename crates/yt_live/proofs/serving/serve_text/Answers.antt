-- The session is refused, or what is served of it is what is served after its opening.
use Rattle.std.proofs.lemmas.Result.{err_from_is_err_and}
use Rattle.cmd_frame.specs.Devices.{change}
use Rattle.core_queue.specs.Settings.{settings_of}
use Rattle.live_replies.specs.Meanings.{live_of}
use Rattle.lang_session.specs.Meanings.{session_of}
use Rattle.yt_live.specs.Ends.{end_of}
use Rattle.yt_live.specs.declared.ends.LiveEnd.TheVariants as ends
use Rattle.yt_live.proofs.Texts.{attended_so, text_refused}
use Rattle.yt_live.proofs.serving.serve_text.Goals as goal

pub returns-in_err-session : goal.returns-in_err-session
returns-in_err-session g c =
    let p = err_from_is_err_and c.from_residual.result c.from_residual.ensures.1 in
    let stops =
    text_refused c.args.budget (settings_of c.args.settings) c.args.text.now c.args.lines.now c.in_err-session.field-0.0 (g.S.Source.left c.args.source.now) (g.O.Sink.taken c.args.sink.now) (g.S.Source.fault_count c.args.source.now)
    (g.O.Sink.fault_count c.args.sink.now) c.in_err-session.ensures.refused in
    record { serves = rw (p.1, p.2) stops }

pub returns-in_err-conversation : goal.returns-in_err-conversation
returns-in_err-conversation g c =
    let p = err_from_is_err_and c.from_residual-in_err-conversation.result c.from_residual-in_err-conversation.ensures.1 in
    let stops =
    text_refused c.args.budget (settings_of c.args.settings) c.args.text.now c.args.lines.now ends.Memory (g.S.Source.left c.args.source.now) (g.O.Sink.taken c.args.sink.now) (g.S.Source.fault_count c.args.source.now)
    (g.O.Sink.fault_count c.args.sink.now) tt in
    record { serves = rw (p.1, p.2) stops }

pub returns : goal.returns
returns g c = record {
  serves =
      attended_so c.args.budget (settings_of c.args.settings) c.args.text.now (session_of c.in_ok-session.session) (live_of c.in_ok-conversation.conversation) c.args.lines.now (end_of c.attend.result)
      (change g.S.Source.left g.S.Source.fault_count c.args.source.now c.attend.new.source) (change g.O.Sink.taken g.O.Sink.fault_count c.args.sink.now c.attend.new.sink)
      c.in_ok-session.ensures.read c.in_ok-session.ensures.meets c.in_ok-conversation.ensures.begun c.attend.ensures.attends;
}
