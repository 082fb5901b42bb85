use Rattle.std.specs.Prelude.{◌∷◌, length}
use Rattle.std.proofs.Common.{ap, subst, arith}
use Rattle.std.proofs.lemmas.List.{length-append}
use Rattle.audit_verdict.specs.Judging.{AfterLine}
use Rattle.audit_verdict.specs.Verdicts.{verdict_of}
use Rattle.audit_verdict.proofs.Judged.{ended_so, faulty, next_made}
use Rattle.audit_verdict.proofs.judging.judge.Goals as goal

pub returns-in-Some-2 : goal.returns-in-Some-2
returns-in-Some-2 c = record {
  verdict = λ t lines same stands of.
      faulty t lines c.loop-line.rest.now c.loop-line.entries c.loop-line.replay (c.loop-line.invariant.goes_on t lines same stands of) c.in-Some.line.now c.in-Some.after.now
      c.in-Some.ensures.first c.in-Some.ensures.single c.fault_in.new.replay c.in-Some-2.why
      (λ before st. subst (AfterLine t before c.in-Some.line.now c.fault_in.new.replay) c.in-Some-2.is (c.in_ok-why.ensures.judged t before same st));
}

pub loop-line-preserved : goal.loop-line-preserved
loop-line-preserved c =
    let first = ap length c.in-Some.ensures.first in
    record {
      replay = c.in_ok-why.ensures.replay;
      few = omega (arith, c.loop-line.invariant.few, first, length-append c.in-Some.line.now (10 ∷ c.in-Some.after.now));
      goes_on = λ t lines same stands of.
          next_made t lines c.loop-line.rest.now c.loop-line.entries c.loop-line.replay (c.loop-line.invariant.goes_on t lines same stands of) c.in-Some.line.now c.in-Some.after.now
          c.in-Some.ensures.first c.in-Some.ensures.single c.fault_in.new.replay
          (λ before st. subst (AfterLine t before c.in-Some.line.now c.fault_in.new.replay) c.in_default-2.is (c.in_ok-why.ensures.judged t before same st));
    }

pub returns : goal.returns
returns c = record {
  verdict = λ t lines same stands of.
      ended_so t lines c.loop-line.rest.now c.loop-line.entries c.loop-line.replay (verdict_of c.at_the_end.result) (c.loop-line.invariant.goes_on t lines same stands of) c.in_default.ensures.none
      (λ all st count. c.at_the_end.ensures.verdict t all st count);
}
