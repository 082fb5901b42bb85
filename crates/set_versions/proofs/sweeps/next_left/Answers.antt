use Rattle.std.proofs.Common.{◌∙◌, ap, arith, length, sym, List}
use Rattle.base_types.specs.Meanings.{fact_of}
use Rattle.set_facts.proofs.Further.{rest_ordered}
use Rattle.set_facts.specs.Runs.{run_of}
use Rattle.def_chase.specs.Values.{Fact}
use Rattle.set_versions.specs.Passed.{to_pass}
use Rattle.set_versions.proofs.Passed.{left_kept, left_passed}
use Rattle.set_versions.proofs.sweeps.next_left.Goals as goal

pub loop-tuple-smaller : goal.loop-tuple-smaller
loop-tuple-smaller c = let e = ap (λ (D : List Fact). length D) c.in-Some.ensures.step in omega (arith, e)

pub loop-tuple-preserved : goal.loop-tuple-preserved
loop-tuple-preserved c =
    let D = run_of c.loop-tuple.base in
    let rest = run_of c.next.new.self in
    let t = c.in-Some.tuple.now in
    let P = to_pass c.loop-tuple.taken in
    let Q = to_pass c.has.new.self in
    record {
      ready = c.has.ensures.ready;
      order = rest_ordered D rest (fact_of t) c.in-Some.ensures.step c.loop-tuple.invariant.order;
      left = sym (left_passed P Q D rest (fact_of t) c.in-Some.ensures.step c.loop-tuple.invariant.order c.has.ensures.above c.if-not-has.ensures.answer) ∙ c.loop-tuple.invariant.left;
    }

pub returns-then-not-has-clause-step : goal.returns-then-not-has-clause-step
returns-then-not-has-clause-step c =
    let D = run_of c.loop-tuple.base in
    let rest = run_of c.next.new.self in
    let t = c.in-Some.tuple.now in
    let P = to_pass c.loop-tuple.taken in
    let Q = to_pass c.has.new.self in
    sym c.loop-tuple.invariant.left ∙ left_kept P Q D rest (fact_of t) c.in-Some.ensures.step c.loop-tuple.invariant.order c.has.ensures.above c.if-not-has.ensures.answer

pub returns-then-not-has-clause-in_order : goal.returns-then-not-has-clause-in_order
returns-then-not-has-clause-in_order c = rest_ordered (run_of c.loop-tuple.base) (run_of c.next.new.self) (fact_of c.in-Some.tuple.now) c.in-Some.ensures.step c.loop-tuple.invariant.order
