use Rattle.std.proofs.Common.{List, ap, arith, length}
use Rattle.base_types.specs.Meanings.{fact_of}
use Rattle.def_chase.specs.Values.{Fact}
use Rattle.set_facts.specs.Runs.{left_of, run_of}
use Rattle.set_facts.proofs.Running.{passed_by}
use Rattle.set_facts.proofs.runs.Run.next_left.Goals as goal

pub loop-tuple-smaller : goal.loop-tuple-smaller
loop-tuple-smaller g c = let e = ap (λ (D : List Fact). length D) c.in-Some.ensures.step in omega (arith, e)

pub loop-tuple-preserved : goal.loop-tuple-preserved
loop-tuple-preserved g c =
    let H = g.H.Hides.hidden c.args.hidden.now in
    passed_by H (run_of c.loop-tuple.self) (run_of c.next.new.self) (left_of H (run_of c.args.self.now)) (fact_of c.in-Some.tuple.now) c.in-Some.ensures.step c.loop-tuple.invariant c.if-not-hides.ensures.answer
