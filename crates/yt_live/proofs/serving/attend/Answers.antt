-- What is due to the lines is due after the first reply.
use Rattle.std.proofs.lemmas.Result.{err_from_is_err_and}
use Rattle.cmd_frame.specs.Devices.{change}
use Rattle.live_replies.specs.Meanings.{live_of}
use Rattle.yt_live.specs.Ends.{end_of}
use Rattle.yt_live.proofs.Texts.{greeted, greets_not}
use Rattle.yt_live.proofs.serving.attend.Goals as goal

pub returns-in_err-greet : goal.returns-in_err-greet
returns-in_err-greet g c =
    let p = err_from_is_err_and c.from_residual.result c.from_residual.ensures.1 in
    let ends =
    greets_not (live_of c.args.conversation.now) c.args.lines.now c.in_err-greet.field-0.0 (g.S.Source.left c.args.source.now) (g.S.Source.fault_count c.args.source.now)
    (change g.O.Sink.taken g.O.Sink.fault_count c.args.sink.now c.greet.new.sink) c.in_err-greet.ensures.err in
    record { attends = rw (p.1, p.2) ends }

pub returns : goal.returns
returns g c = record {
  attends =
      greeted (live_of c.args.conversation.now) c.args.lines.now (end_of c.converse.result) (change g.S.Source.left g.S.Source.fault_count c.args.source.now c.converse.new.source)
      (change g.O.Sink.taken g.O.Sink.fault_count c.args.sink.now c.converse.new.sink) (g.O.Sink.taken c.greet.new.sink) (g.O.Sink.fault_count c.greet.new.sink) c.in_ok-greet.ensures.ok c.in_ok-greet.ensures.later c.converse.ensures.converses;
}
