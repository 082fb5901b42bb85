-- The loop goes on with what was filled in, and what is lost is what was begun and what was lost of it.
use Rattle.std.proofs.Common.{subst, arith}
use Rattle.std.specs.Prelude.{IfErr}
use Rattle.std.proofs.lemmas.Result.{err_from_is_err_and}
use Rattle.base_devices.specs.Given.{HasCut, HasFilled, IsLost}
use Rattle.base_devices.proofs.Going.{goes_on, fails}
use Rattle.base_devices.proofs.lines.Lines.next.Goals as goal

pub returns-in_err-fill-clause-refused : goal.returns-in_err-fill-clause-refused
returns-in_err-fill-clause-refused g c =
    let p = err_from_is_err_and c.from_residual-in_err-fill.result c.from_residual-in_err-fill.ensures.1 in
    let cut = subst (HasCut c.pieces.self c.cut.new.self c.pieces.line.items c.cut.new.line.items) c.if-branch.false c.in_ok-cut.ensures.moved in
    rw (p.1, p.2) (fails _ _ _ c.args.self.now c.pieces.self c.cut.new.self c.pieces.line.items c.cut.new.line.items _ c.pieces.invariant.0 cut c.in_ok-cut.ensures.room c.in_err-fill.ensures.refused)

pub pieces-preserved : goal.pieces-preserved
pieces-preserved g c =
    let cut = subst (HasCut c.pieces.self c.cut.new.self c.pieces.line.items c.cut.new.line.items) c.if-branch.false c.in_ok-cut.ensures.moved in
    let filled = subst (HasFilled (g.S.Source.left c.pieces.source) (g.S.Source.left c.fill.new.source) c.cut.new.self c.fill.new.self) c.if-not-branch.false c.in_ok-fill.ensures.filled in
    (goes_on _ _ _ c.args.self.now c.pieces.self c.cut.new.self c.pieces.line.items c.cut.new.line.items c.fill.new.self c.pieces.invariant.0 cut c.in_ok-cut.ensures.room filled, omega (arith, c.pieces.invariant.1, c.in_ok-fill.ensures.later))
