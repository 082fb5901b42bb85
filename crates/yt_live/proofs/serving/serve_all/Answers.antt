-- What is due to the stream is due to the session at its front, and to the lines after it.
use Rattle.std.proofs.Common.{◌+◌, ◌≤◌, ℕ, List, [], length, sym, ap, subst}
use Rattle.std.specs.Prelude.{OnOk}
use Rattle.std.proofs.lemmas.Result.{err_from_is_err_and}
use Rattle.cmd_frame.specs.Devices.{change}
use Rattle.def_language.specs.Lines.{read}
use Rattle.base_devices.specs.Given.{Kept}
use Rattle.core_queue.specs.Settings.{settings_of}
use Rattle.yt_live.specs.Ends.{Ends, EndsAlone, end_of, of_lines}
use Rattle.yt_live.specs.Streams.{opened_with}
use Rattle.yt_live.specs.declared.serving.TheConstants.{INPUT_LIMIT}
use Rattle.yt_live.proofs.Texts.{opened_more, opened_whole, opens_not, serves_alone, serves_text}
use Rattle.yt_live.proofs.serving.serve_all.Goals as goal

pub returns-in_err-begun : goal.returns-in_err-begun
returns-in_err-begun g c =
    let p = err_from_is_err_and c.from_residual.result c.from_residual.ensures.1 in
    let stops =
    opens_not c.args.budget (settings_of c.args.settings) c.in_err-begun.field-0.0 (change g.S.Source.left g.S.Source.fault_count c.args.source.now c.read_opening.new.source) c.new-lines.result (g.O.Sink.taken c.args.sink.now) (g.O.Sink.fault_count c.args.sink.now)
    (ap (λ (k : Kept). k.room) c.new-lines.ensures.fresh) c.in_err-begun.ensures.nothing c.in_err-begun.ensures.fault in
    record { serves = rw (p.1, p.2) stops }

pub serve_text-requires-clause-short : goal.serve_text-requires-clause-short
serve_text-requires-clause-short g c =
    let o = opened_more (g.S.Source.left c.args.source.now) (g.S.Source.left c.read_opening.new.source) c.new-lines.result c.read_opening.new.lines c.in_ok-begun.begun c.in_ok-begun.ensures.opens c.if-begun.true in
    subst (λ (l : List ℕ). length l ≤ INPUT_LIMIT + 1) (sym c.deref.ensures.value) o.short

pub serve_alone-requires-clause-short : goal.serve_alone-requires-clause-short
serve_alone-requires-clause-short g c =
    let o = opened_whole (g.S.Source.left c.args.source.now) (g.S.Source.left c.read_opening.new.source) c.new-lines.result c.read_opening.new.lines c.in_ok-begun.begun c.in_ok-begun.ensures.opens c.if-begun.false in
    subst (λ (l : List ℕ). length l ≤ INPUT_LIMIT + 1) (sym c.deref-2.ensures.value) o.short

pub returns-then-begun : goal.returns-then-begun
returns-then-begun g c =
    let o = opened_more (g.S.Source.left c.args.source.now) (g.S.Source.left c.read_opening.new.source) c.new-lines.result c.read_opening.new.lines c.in_ok-begun.begun c.in_ok-begun.ensures.opens c.if-begun.true in
    let after = change g.S.Source.left g.S.Source.fault_count c.read_opening.new.source c.serve_text.new.source in
    let out = change g.O.Sink.taken g.O.Sink.fault_count c.args.sink.now c.serve_text.new.sink in
    let served =
    subst (λ (l : List ℕ). Ends (of_lines (opened_with c.args.budget (settings_of c.args.settings) (read l)) c.read_opening.new.lines.bytes) c.read_opening.new.lines.room (end_of c.serve_text.result) after out) c.deref.ensures.value c.serve_text.ensures.serves in
    record {
      serves =
          serves_text c.args.budget (settings_of c.args.settings) c.in_ok-begun.begun.text.items c.new-lines.result c.read_opening.new.lines (end_of c.serve_text.result)
          (change g.S.Source.left g.S.Source.fault_count c.args.source.now c.serve_text.new.source) out (g.S.Source.left c.read_opening.new.source) (g.S.Source.fault_count c.read_opening.new.source)
          (ap (λ (k : Kept). k.room) c.new-lines.ensures.fresh) o c.in_ok-begun.ensures.later served;
    }

pub returns : goal.returns
returns g c =
    let o = opened_whole (g.S.Source.left c.args.source.now) (g.S.Source.left c.read_opening.new.source) c.new-lines.result c.read_opening.new.lines c.in_ok-begun.begun c.in_ok-begun.ensures.opens c.if-begun.false in
    let out = change g.O.Sink.taken g.O.Sink.fault_count c.args.sink.now c.serve_alone.new.sink in
    let served =
    subst (λ (l : List ℕ). EndsAlone (opened_with c.args.budget (settings_of c.args.settings) (read l) []) (end_of c.serve_alone.result) out) c.deref-2.ensures.value c.serve_alone.ensures.ends in
    record {
      serves =
          serves_alone c.args.budget (settings_of c.args.settings) c.in_ok-begun.begun.text.items (end_of c.serve_alone.result) (change g.S.Source.left g.S.Source.fault_count c.args.source.now c.read_opening.new.source) out o served;
    }
