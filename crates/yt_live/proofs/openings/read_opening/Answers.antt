-- The lines so far are no `end`; what ends them opens the session, or all of the input is its text.
use Rattle.std.proofs.Common.{◌+◌, ◌≤◌, ℕ, List, length, refl, sym, subst, arith}
use Rattle.std.proofs.lemmas.Result.{err_from_is_err_and}
use Rattle.yt_live.proofs.Continuing.{rose_since}
use Rattle.yt_live.proofs.Opening.{IsOpening, before_all, ends_now, fails, goes_now, opens_now, wants}
use Rattle.yt_live.proofs.Turning.{fault_of, less_left}
use Rattle.yt_live.proofs.openings.read_opening.Goals as goal

pub each-init : goal.each-init
each-init g c =
    let left = g.S.Source.left c.args.source.now in
    (subst (λ (t : List ℕ). IsOpening left left c.args.lines.now c.args.lines.now t) (sym c.new-text.ensures.items) (before_all left c.args.lines.now c.requires.fresh), omega arith)

pub returns-in_err-line-clause-nothing : goal.returns-in_err-line-clause-nothing
returns-in_err-line-clause-nothing g c =
    let p = err_from_is_err_and c.from_residual.result c.from_residual.ensures.1 in
    rw (p.1, p.2) (fails (g.S.Source.left c.args.source.now) (g.S.Source.left c.each.source) (g.S.Source.left c.next.new.source) c.args.lines.now c.each.lines c.each.text.items c.in_err-line.field-0.0 c.each.invariant.0 c.in_err-line.ensures.refused)

pub returns-in_err-line-clause-fault : goal.returns-in_err-line-clause-fault
returns-in_err-line-clause-fault g c =
    let p = err_from_is_err_and c.from_residual.result c.from_residual.ensures.1 in
    rw (p.1, p.2) (λ same. rose_since (g.S.Source.fault_count c.args.source.now) (g.S.Source.fault_count c.each.source) (g.S.Source.fault_count c.next.new.source) c.each.invariant.1 (c.in_err-line.ensures.fault (fault_of c.in_err-line.field-0.0 same)))

pub returns-in_err-push_line-in-Whole-clause-nothing : goal.returns-in_err-push_line-in-Whole-clause-nothing
returns-in_err-push_line-in-Whole-clause-nothing g c =
    let p = err_from_is_err_and c.from_residual-in_err-push_line-in-Whole.result c.from_residual-in_err-push_line-in-Whole.ensures.1 in
    rw (p.1, p.2) (wants (g.S.Source.left c.args.source.now) (g.S.Source.left c.each.source) (g.S.Source.left c.next.new.source) c.args.lines.now c.each.lines c.next.new.self c.each.text.items c.each.invariant.0 c.in_ok-line.field-0
    c.in_ok-line.ensures.given c.in_err-push_line-in-Whole.field-0.0 c.in_err-push_line-in-Whole.ensures.memory)

pub returns-then-branch-clause-opens : goal.returns-then-branch-clause-opens
returns-then-branch-clause-opens g c =
    opens_now (g.S.Source.left c.args.source.now) (g.S.Source.left c.each.source) (g.S.Source.left c.next.new.source) c.args.lines.now c.each.lines c.next.new.self c.each.text.items c.each.invariant.0 c.in_ok-line.field-0
    c.in_ok-line.ensures.given c.in_ok-line.ensures.line c.in-Whole.line c.deref.result.now c.push_line.new.text.items c.deref.ensures.value c.in-Whole.is c.in_ok-push_line-in-Whole.ensures.pushed c.in_ok-push_line-in-Whole.field-0
    c.in_ok-push_line-in-Whole.ensures.whole c.if-branch.true c.requires.limit

pub each-smaller : goal.each-smaller
each-smaller g c =
    less_left (g.S.Source.left c.each.source) (g.S.Source.left c.next.new.source) c.each.lines c.next.new.self c.in_ok-line.field-0 c.in-Whole.line c.in_ok-line.ensures.given c.in-Whole.is

pub each-preserved : goal.each-preserved
each-preserved g c = (
  goes_now (g.S.Source.left c.args.source.now) (g.S.Source.left c.each.source) (g.S.Source.left c.next.new.source) c.args.lines.now c.each.lines c.next.new.self c.each.text.items c.each.invariant.0 c.in_ok-line.field-0
      c.in_ok-line.ensures.given c.in_ok-line.ensures.line c.in-Whole.line c.deref.result.now c.push_line.new.text.items c.deref.ensures.value c.in-Whole.is c.in_ok-push_line-in-Whole.ensures.pushed c.in_ok-push_line-in-Whole.field-0
      c.in_ok-push_line-in-Whole.ensures.whole c.if-branch.false,
  omega (arith, c.each.invariant.1, c.in_ok-line.ensures.later),
)

pub returns-in_err-text-in-Last-clause-nothing : goal.returns-in_err-text-in-Last-clause-nothing
returns-in_err-text-in-Last-clause-nothing g c =
    let p = err_from_is_err_and c.from_residual-in_err-text-in-Last.result c.from_residual-in_err-text-in-Last.ensures.1 in
    rw (p.1, p.2) (wants (g.S.Source.left c.args.source.now) (g.S.Source.left c.each.source) (g.S.Source.left c.next.new.source) c.args.lines.now c.each.lines c.next.new.self c.each.text.items c.each.invariant.0 c.in_ok-line.field-0
    c.in_ok-line.ensures.given c.in_err-text-in-Last.field-0.0 c.in_err-text-in-Last.ensures.memory)

pub returns-in-Last-clause-opens : goal.returns-in-Last-clause-opens
returns-in-Last-clause-opens g c =
    ends_now (g.S.Source.left c.args.source.now) (g.S.Source.left c.each.source) (g.S.Source.left c.next.new.source) c.args.lines.now c.each.lines c.next.new.self c.each.text.items c.each.invariant.0 c.in_ok-line.field-0
    c.in_ok-line.ensures.given c.in_ok-line.ensures.line c.in-Last.line c.deref-in-Last.result.now c.in_ok-text-in-Last.text.items c.deref-in-Last.ensures.value c.in-Last.is c.in_ok-text-in-Last.ensures.last c.requires.limit
