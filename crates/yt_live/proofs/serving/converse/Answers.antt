-- Each line is served at the session that those before it left, and whatever ends the conversation ends the whole of it.
use Rattle.std.proofs.Common.{◌+◌, ◌≤◌, length, refl, sym, ap, ◌∙◌, arith}
use Rattle.std.proofs.lemmas.Result.{err_from_is_err_and}
use Rattle.cmd_frame.specs.Devices.{change}
use Rattle.live_replies.specs.Meanings.{live_of}
use Rattle.yt_live.specs.Ends.{end_of, of_line_refusal}
use Rattle.yt_live.proofs.Turning.{before_lines, goes_now, less_left, line_in, lost_now, quits_now, rests_now, torn_now}
use Rattle.yt_live.proofs.serving.converse.Goals as goal

pub each-init : goal.each-init
each-init g c =
    (before_lines (live_of c.args.conversation.now) (g.S.Source.left c.args.source.now) (g.O.Sink.taken c.args.sink.now) c.args.lines.now, omega arith, omega arith)

pub returns-in_err-line : goal.returns-in_err-line
returns-in_err-line g c =
    let p = err_from_is_err_and c.from_residual.result c.from_residual.ensures.1 in
    let source = change g.S.Source.left g.S.Source.fault_count c.args.source.now c.next.new.source in
    let out = change g.O.Sink.taken g.O.Sink.fault_count c.args.sink.now c.each.sink in
    let ends =
    lost_now (live_of c.args.conversation.now) (live_of c.each.conversation) source out (g.S.Source.left c.each.source) (g.O.Sink.taken c.each.sink) (g.S.Source.fault_count c.each.source) (g.O.Sink.fault_count c.each.sink) c.args.lines.now c.each.lines
    c.each.invariant.0 c.each.invariant.1 c.each.invariant.2 c.in_err-line.field-0.0 refl refl c.in_err-line.ensures.refused c.in_err-line.ensures.fault in
    record { converses = rw (p.1, p.2) ends }

pub returns-in_err-turn-in-Whole : goal.returns-in_err-turn-in-Whole
returns-in_err-turn-in-Whole g c =
    let p = err_from_is_err_and c.from_residual-in_err-turn-in-Whole.result c.from_residual-in_err-turn-in-Whole.ensures.1 in
    let source = change g.S.Source.left g.S.Source.fault_count c.args.source.now c.next.new.source in
    let out = change g.O.Sink.taken g.O.Sink.fault_count c.args.sink.now c.turn.new.sink in
    let ends =
    torn_now (live_of c.args.conversation.now) (live_of c.each.conversation) source out (g.S.Source.left c.each.source) (g.O.Sink.taken c.each.sink) (g.S.Source.fault_count c.each.source) (g.O.Sink.fault_count c.each.sink) c.args.lines.now c.each.lines
    c.each.invariant.0 c.each.invariant.1 c.each.invariant.2 c.next.new.self c.in_ok-line.field-0 c.in_ok-line.ensures.given c.in_ok-line.ensures.line c.deref.result.now (c.deref.ensures.value ∙ sym (ap line_in c.in-Whole.is))
    c.in_err-turn-in-Whole.field-0.0 c.in_err-turn-in-Whole.ensures.refused in
    record { converses = rw (p.1, p.2) ends }

pub returns-then-not-branch : goal.returns-then-not-branch
returns-then-not-branch g c =
    let source = change g.S.Source.left g.S.Source.fault_count c.args.source.now c.next.new.source in
    let out = change g.O.Sink.taken g.O.Sink.fault_count c.args.sink.now c.turn.new.sink in
    record {
      converses =
          quits_now (live_of c.args.conversation.now) (live_of c.each.conversation) source out (g.S.Source.left c.each.source) (g.O.Sink.taken c.each.sink) (g.S.Source.fault_count c.each.source) (g.O.Sink.fault_count c.each.sink) c.args.lines.now c.each.lines
          c.each.invariant.0 c.each.invariant.1 c.each.invariant.2 c.next.new.self c.in_ok-line.field-0 c.in_ok-line.ensures.given c.in_ok-line.ensures.line c.deref.result.now c.in-Whole.line c.deref.ensures.value (live_of c.turn.new.conversation)
          c.in_ok-turn-in-Whole.field-0 c.in_ok-turn-in-Whole.ensures.replied c.in-Whole.is c.if-not-branch.true;
    }

pub each-smaller : goal.each-smaller
each-smaller g c =
    less_left (g.S.Source.left c.each.source) (g.S.Source.left c.next.new.source) c.each.lines c.next.new.self c.in_ok-line.field-0 c.in-Whole.line c.in_ok-line.ensures.given c.in-Whole.is

pub each-preserved : goal.each-preserved
each-preserved g c =
    let source = change g.S.Source.left g.S.Source.fault_count c.args.source.now c.next.new.source in
    let out = change g.O.Sink.taken g.O.Sink.fault_count c.args.sink.now c.turn.new.sink in (
      goes_now (live_of c.args.conversation.now) (live_of c.each.conversation) source out (g.S.Source.left c.each.source) (g.O.Sink.taken c.each.sink) (g.S.Source.fault_count c.each.source) (g.O.Sink.fault_count c.each.sink) c.args.lines.now c.each.lines
          c.each.invariant.0 c.each.invariant.1 c.each.invariant.2 c.next.new.self c.in_ok-line.field-0 c.in_ok-line.ensures.given c.in_ok-line.ensures.line c.deref.result.now c.in-Whole.line c.deref.ensures.value (live_of c.turn.new.conversation)
          c.in_ok-turn-in-Whole.field-0 c.in_ok-turn-in-Whole.ensures.replied c.in-Whole.is c.if-not-branch.false,
      omega (arith, c.each.invariant.1, c.in_ok-line.ensures.later),
      omega (arith, c.each.invariant.2, c.in_ok-turn-in-Whole.ensures.later),
    )

pub returns-in_err-turn-in-Last : goal.returns-in_err-turn-in-Last
returns-in_err-turn-in-Last g c =
    let p = err_from_is_err_and c.from_residual-in_err-turn-in-Last.result c.from_residual-in_err-turn-in-Last.ensures.1 in
    let source = change g.S.Source.left g.S.Source.fault_count c.args.source.now c.next.new.source in
    let out = change g.O.Sink.taken g.O.Sink.fault_count c.args.sink.now c.turn-in-Last.new.sink in
    let ends =
    torn_now (live_of c.args.conversation.now) (live_of c.each.conversation) source out (g.S.Source.left c.each.source) (g.O.Sink.taken c.each.sink) (g.S.Source.fault_count c.each.source) (g.O.Sink.fault_count c.each.sink) c.args.lines.now c.each.lines
    c.each.invariant.0 c.each.invariant.1 c.each.invariant.2 c.next.new.self c.in_ok-line.field-0 c.in_ok-line.ensures.given c.in_ok-line.ensures.line c.deref-in-Last.result.now (c.deref-in-Last.ensures.value ∙ sym (ap line_in c.in-Last.is))
    c.in_err-turn-in-Last.field-0.0 c.in_err-turn-in-Last.ensures.refused in
    record { converses = rw (p.1, p.2) ends }

pub returns-in-Last : goal.returns-in-Last
returns-in-Last g c =
    let source = change g.S.Source.left g.S.Source.fault_count c.args.source.now c.next.new.source in
    let out = change g.O.Sink.taken g.O.Sink.fault_count c.args.sink.now c.turn-in-Last.new.sink in
    record {
      converses =
          rests_now (live_of c.args.conversation.now) (live_of c.each.conversation) source out (g.S.Source.left c.each.source) (g.O.Sink.taken c.each.sink) (g.S.Source.fault_count c.each.source) (g.O.Sink.fault_count c.each.sink) c.args.lines.now c.each.lines
          c.each.invariant.0 c.each.invariant.1 c.each.invariant.2 c.next.new.self c.in_ok-line.field-0 c.in_ok-line.ensures.given c.in_ok-line.ensures.line c.deref-in-Last.result.now c.in-Last.line c.deref-in-Last.ensures.value (live_of c.turn-in-Last.new.conversation)
          c.in_ok-turn-in-Last.field-0 c.in_ok-turn-in-Last.ensures.replied c.in-Last.is;
    }
