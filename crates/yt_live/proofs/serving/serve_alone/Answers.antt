-- The session is refused, or it is told to be ready and nothing follows.
use Rattle.std.proofs.lemmas.Result.{err_from_is_err_and}
use Rattle.cmd_frame.specs.Devices.{change}
use Rattle.core_queue.specs.Settings.{settings_of}
use Rattle.live_replies.specs.Meanings.{live_of}
use Rattle.lang_session.specs.Meanings.{session_of}
use Rattle.yt_live.specs.declared.ends.LiveEnd.TheVariants as ends
use Rattle.yt_live.proofs.Texts.{alone_greeted, alone_refused}
use Rattle.yt_live.proofs.serving.serve_alone.Goals as goal

pub returns-in_err-session : goal.returns-in_err-session
returns-in_err-session g c =
    let p = err_from_is_err_and c.from_residual.result c.from_residual.ensures.1 in
    let stops =
    alone_refused c.args.budget (settings_of c.args.settings) c.args.text.now c.in_err-session.field-0.0 (g.O.Sink.taken c.args.sink.now) (g.O.Sink.fault_count c.args.sink.now) c.in_err-session.ensures.refused in
    record { ends = rw (p.1, p.2) stops }

pub returns-in_err-conversation : goal.returns-in_err-conversation
returns-in_err-conversation g c =
    let p = err_from_is_err_and c.from_residual-in_err-conversation.result c.from_residual-in_err-conversation.ensures.1 in
    let stops = alone_refused c.args.budget (settings_of c.args.settings) c.args.text.now ends.Memory (g.O.Sink.taken c.args.sink.now) (g.O.Sink.fault_count c.args.sink.now) tt in
    record { ends = rw (p.1, p.2) stops }

pub returns : goal.returns
returns g c = record {
  ends =
      alone_greeted c.args.budget (settings_of c.args.settings) c.args.text.now (session_of c.in_ok-session.session) (live_of c.in_ok-conversation.conversation) c.greet.result
      (change g.O.Sink.taken g.O.Sink.fault_count c.args.sink.now c.greet.new.sink) c.in_ok-session.ensures.read c.in_ok-session.ensures.meets c.in_ok-conversation.ensures.begun c.greet.ensures.ok c.greet.ensures.err;
}
