use Rattle.std.specs.Prelude.{◌≡◌, ◌+◌, ◌-◌, false, take, drop}
use Rattle.std.proofs.Common.{sym, ap, ◌∙◌, arith}
use Rattle.std.proofs.lemmas.List.{length-drop, take_rest}
use Rattle.audit_claims.specs.Marks.{passes}
use Rattle.audit_claims.proofs.Lined.{passed_before, passed_from}
use Rattle.audit_claims.proofs.parts.place_of.Goals as goal

pub loop-place-preserved : goal.loop-place-preserved
loop-place-preserved c =
    let next = rw take_rest at c.line_end.ensures.line in
    let room = rw take_rest at c.line_end.ensures.within in
    let cut : (c.loop-place.place + c.line_end.result) - c.loop-place.place ≡ c.line_end.result = omega arith in
    let fails : passes c.args.mark (take c.line_end.result (drop c.loop-place.place c.args.text.now)) ≡ false =
    sym (ap (λ k. passes c.args.mark (take k (drop c.loop-place.place c.args.text.now))) cut) ∙ sym c.passes.ensures.passes ∙ c.if-passes.false in
    record {
      within = omega (arith, c.loop-place-test.true, room, length-drop c.loop-place.place c.args.text.now);
      before = passed_before (passes c.args.mark) c.args.text.now c.loop-place.place c.line_end.result next fails c.loop-place.invariant.before;
      from = passed_from (passes c.args.mark) c.args.text.now c.loop-place.place c.line_end.result next fails c.loop-place.invariant.from;
    }
