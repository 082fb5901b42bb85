use Rattle.std.proofs.Common.{rules, ◌∙◌, ap, sym, subst, List, map, IfErr}
use Rattle.std.proofs.lemmas.Result.{IfErr-weaker}
use Rattle.base_types.specs.Meanings.{datum_of, fact_of}
use Rattle.base_types.specs.declared.values.Value.{Value}
use Rattle.def_workspace.specs.Ops.{Course, all_found, found, with_facts}
use Rattle.ws_run.specs.Finding.{HaltsFirst, IsOver, LosesOne}
use Rattle.ws_run.specs.declared.halts.Halt.{Halt}
use Rattle.ws_run.proofs.Found.{facts_on, fact_lost}
use Rattle.ws_run.proofs.resolving.found_tuples.Goals as goal

-- The tuple that has a null that is not there.
pub returns-in_err-values-clause-lost : goal.returns-in_err-values-clause-lost
returns-in_err-values-clause-lost c =
    let g = c.args.ground.now in
    let lost : IfErr c.from_residual.result (LosesOne (all_found (found g.names g.facts) (map datum_of c.as_slice.result.now))) = search rules in
    IfErr-weaker c.from_residual.result (LosesOne (all_found (found g.names g.facts) (map datum_of c.as_slice.result.now)))
    (λ (x : Halt). (k : Course) → IsOver g k → HaltsFirst (with_facts k (map fact_of c.args.tuples.now)) k x)
    (λ x loses k over. fact_lost g k over c.args.tuples.now c.loop-tuple.tuple-index c.tuple-item.result c.loop-tuple-test.true c.tuple-item.is c.loop-tuple.all.items x
    (subst (λ (vs : List Value). LosesOne (all_found (found g.names g.facts) (map datum_of vs)) x) c.as_slice.ensures.items loses)
    (c.loop-tuple.invariant k over))
    lost

-- One more tuple is found.
pub loop-tuple-preserved : goal.loop-tuple-preserved
loop-tuple-preserved c =
    let g = c.args.ground.now in
    λ k over.
    facts_on g k over c.args.tuples.now c.loop-tuple.tuple-index c.tuple-item.result c.loop-tuple-test.true c.tuple-item.is c.in_ok-values.values.items c.loop-tuple.all.items _ c.in_ok-new.field-0
    (sym (ap (λ (vs : List Value). all_found (found g.names g.facts) (map datum_of vs)) c.as_slice.ensures.items) ∙ c.in_ok-values.ensures.there)
    c.in_ok-new.ensures.tuple c.in_ok-push.ensures.ok (c.loop-tuple.invariant k over)
