use Rattle.std.proofs.Common.{List, ap, arith, length, refl, sym, ◌∙◌}
use Rattle.std.specs.Option.{option_map, option_copied}
use Rattle.base_types.specs.Candidates.{column_of}
use Rattle.base_types.specs.Meanings.{fact_of}
use Rattle.def_chase.specs.Values.{Fact}
use Rattle.set_facts.specs.Runs.{run_of}
use Rattle.set_facts.proofs.Further.{none_after, none_further, one_kept, one_left, rest_ordered}
use Rattle.set_facts.proofs.runs.Run.next_further.Goals as goal

pub loop-tuple-init : goal.loop-tuple-init
loop-tuple-init c = record { order = c.requires.in_order; same = refl }

pub returns-then-tuple-relation-clause-step : goal.returns-then-tuple-relation-clause-step
returns-then-tuple-relation-clause-step c =
    let r = c.args.relation in
    let column = option_map column_of c.args.column in
    let past = option_map fact_of (option_copied c.args.past) in
    let D = run_of c.loop-tuple.self in
    let rest = run_of c.next.new.self in
    let t = fact_of c.in-Some.tuple.now in
    c.loop-tuple.invariant.same ∙ none_further r column past D rest t c.in-Some.ensures.step c.loop-tuple.invariant.order c.if-tuple-relation.true
    ∙ sym (none_after r column past D rest t c.in-Some.ensures.step c.loop-tuple.invariant.order c.if-tuple-relation.true)

pub returns-then-tuple-relation-clause-end : goal.returns-then-tuple-relation-clause-end
returns-then-tuple-relation-clause-end c =
    c.loop-tuple.invariant.same
    ∙ none_further c.args.relation (option_map column_of c.args.column) (option_map fact_of (option_copied c.args.past)) (run_of c.loop-tuple.self) (run_of c.next.new.self) (fact_of c.in-Some.tuple.now) c.in-Some.ensures.step c.loop-tuple.invariant.order c.if-tuple-relation.true

pub returns-then-tuple-relation-clause-in_order : goal.returns-then-tuple-relation-clause-in_order
returns-then-tuple-relation-clause-in_order c = rest_ordered (run_of c.loop-tuple.self) (run_of c.next.new.self) (fact_of c.in-Some.tuple.now) c.in-Some.ensures.step c.loop-tuple.invariant.order

pub returns-then-is_further-clause-step : goal.returns-then-is_further-clause-step
returns-then-is_further-clause-step c =
    c.loop-tuple.invariant.same
    ∙ one_kept c.args.relation (option_map column_of c.args.column) (option_map fact_of (option_copied c.args.past)) (run_of c.loop-tuple.self) (run_of c.next.new.self) (fact_of c.in-Some.tuple.now) c.in-Some.ensures.step c.if-is_further.ensures.answer

pub returns-then-is_further-clause-in_order : goal.returns-then-is_further-clause-in_order
returns-then-is_further-clause-in_order c = rest_ordered (run_of c.loop-tuple.self) (run_of c.next.new.self) (fact_of c.in-Some.tuple.now) c.in-Some.ensures.step c.loop-tuple.invariant.order

pub loop-tuple-smaller : goal.loop-tuple-smaller
loop-tuple-smaller c = let e = ap (λ (D : List Fact). length D) c.in-Some.ensures.step in omega (arith, e)

pub loop-tuple-preserved : goal.loop-tuple-preserved
loop-tuple-preserved c = record {
  order = rest_ordered (run_of c.loop-tuple.self) (run_of c.next.new.self) (fact_of c.in-Some.tuple.now) c.in-Some.ensures.step c.loop-tuple.invariant.order;
  same =
      c.loop-tuple.invariant.same
      ∙ one_left c.args.relation (option_map column_of c.args.column) (option_map fact_of (option_copied c.args.past)) (run_of c.loop-tuple.self) (run_of c.next.new.self) (fact_of c.in-Some.tuple.now) c.in-Some.ensures.step c.if-is_further.ensures.answer;
}
