use Rattle.std.proofs.Common.{rules, ◌∙◌, ap, sym, subst, List, map, IfErr}
use Rattle.std.proofs.lemmas.Result.{IfErr-weaker}
use Rattle.def_workspace.specs.Ops.{Course, all_found, found_spelled, with_spelled}
use Rattle.ws_lines.specs.Meanings.{spelled_of, spelled_fact_of}
use Rattle.ws_lines.specs.declared.spelled.Spelled.{Spelled}
use Rattle.ws_run.specs.Finding.{HaltsFirst, IsOver, LosesOne}
use Rattle.ws_run.specs.declared.halts.Halt.{Halt}
use Rattle.ws_run.proofs.Found.{spelled_on, spelled_lost}
use Rattle.ws_run.proofs.resolving.found_spelled.Goals as goal

-- The tuple that has a null that is not there.
pub returns-in_err-values-clause-lost : goal.returns-in_err-values-clause-lost
returns-in_err-values-clause-lost c =
    let g = c.args.ground.now in
    let first = c.args.first in
    let lost : IfErr c.from_residual.result (LosesOne (all_found (found_spelled first g.names g.facts) (map spelled_of c.as_slice.result.now))) = search rules in
    IfErr-weaker c.from_residual.result (LosesOne (all_found (found_spelled first g.names g.facts) (map spelled_of c.as_slice.result.now)))
    (λ (x : Halt). (k : Course) → IsOver g k → HaltsFirst (with_spelled first k (map spelled_fact_of c.args.tuples.now)) k x)
    (λ x loses k over. spelled_lost first g k over c.args.tuples.now c.loop-tuple.tuple-index c.tuple-item.result c.loop-tuple-test.true c.tuple-item.is c.loop-tuple.all.items x
    (subst (λ (vs : List Spelled). LosesOne (all_found (found_spelled first g.names g.facts) (map spelled_of vs)) x) c.as_slice.ensures.items loses)
    (c.loop-tuple.invariant k over))
    lost

-- One more tuple is found.
pub loop-tuple-preserved : goal.loop-tuple-preserved
loop-tuple-preserved c =
    let g = c.args.ground.now in
    let first = c.args.first in
    λ k over.
    spelled_on first g k over c.args.tuples.now c.loop-tuple.tuple-index c.tuple-item.result c.loop-tuple-test.true c.tuple-item.is c.in_ok-values.values.items c.loop-tuple.all.items _ c.in_ok-new.field-0
    (sym (ap (λ (vs : List Spelled). all_found (found_spelled first g.names g.facts) (map spelled_of vs)) c.as_slice.ensures.items) ∙ c.in_ok-values.ensures.there)
    c.in_ok-new.ensures.tuple c.in_ok-push.ensures.ok (c.loop-tuple.invariant k over)
