use Rattle.std.proofs.Common.{◌≡◌, ◌+◌, ℕ, suc, subst, arith, map, take}
use Rattle.lang_session.specs.Meanings.{update_of}
use Rattle.chase_update.specs.Results.{finish_of}
use Rattle.lang_print.specs.Lines.{with_line, with_lines}
use Rattle.lang_report.specs.Results.{finish_lines}
use Rattle.lang_report.proofs.Told.{finishes_more}
use Rattle.lang_report.proofs.finishes.with_finishes.Goals as goal

pub loop-place-preserved : goal.loop-place-preserved
loop-place-preserved c =
    let us = map update_of c.args.updates.now.items in
    let further : suc c.loop-place.place ≡ c.loop-place.place + 1 = omega arith in
    let number : c.loop-place.place + 1 ≡ 1 + c.loop-place.place = omega arith in
    subst (λ (n : ℕ). c.add_finish_at.new.page ≡ with_lines (λ words. words) c.args.page (finish_lines us 1 (map finish_of (take n c.args.finishes.now)))) further
    (finishes_more with_line c.args.page c.loop-place.page c.add_finish_at.new.page us 1 (c.loop-place.place + 1) finish_of c.args.finishes.now c.loop-place.place c.loop-place-test.true number c.loop-place.invariant c.in_ok-add_finish_at.ensures)
