use Rattle.std.proofs.Common.{◌∙◌, ap, sym, map, arith}
use Rattle.std.proofs.Math.ListN.{drop_of_length-le}
use Rattle.std.specs.List.{list_any}
use Rattle.std.specs.Option.{option_map}
use Rattle.std.specs.Prelude.{find}
use Rattle.base_types.specs.Candidates.{column_of, is_candidate}
use Rattle.base_types.specs.Meanings.{fact_of}
use Rattle.base_types.proofs.NextCandidates.{candidate_of}
use Rattle.set_facts.proofs.Ahead.{none_at, lacks_all}
use Rattle.set_facts.proofs.listed.ListedFacts.lacks.Goals as goal

pub returns-then-tuple-relation : goal.returns-then-tuple-relation
returns-then-tuple-relation c =
    let r = c.args.relation in
    let column = option_map column_of c.args.column in
    let p = is_candidate r column in
    let E = c.ahead-tuple-items.result.now in
    let none = sym c.loop-tuple.invariant ∙ none_at p r E c.loop-tuple.tuple-index c.tuple-item.result (candidate_of r column) c.if-tuple-relation.true c.ahead-tuple-items.ensures.in_order c.loop-tuple-test.true c.tuple-item.is in
    record {
      none = λ _. ap (list_any p) (sym (ap (map fact_of) c.as_slice.ensures.value ∙ c.self.view_is)) ∙ lacks_all p r (map fact_of c.as_slice.result.now) (map fact_of E) (candidate_of r column) c.ahead-tuple-items.ensures.all none;
    }

pub returns : goal.returns
returns c =
    let r = c.args.relation in
    let column = option_map column_of c.args.column in
    let p = is_candidate r column in
    let E = c.ahead-tuple-items.result.now in
    let none = sym c.loop-tuple.invariant ∙ ap (λ l. find p (map fact_of l)) (drop_of_length-le E {i = c.loop-tuple.tuple-index} (omega (arith, c.loop-tuple-test.false))) in
    record {
      none = λ _. ap (list_any p) (sym (ap (map fact_of) c.as_slice.ensures.value ∙ c.self.view_is)) ∙ lacks_all p r (map fact_of c.as_slice.result.now) (map fact_of E) (candidate_of r column) c.ahead-tuple-items.ensures.all none;
    }
