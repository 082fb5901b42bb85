use Rattle.std.proofs.Common.{◌∙◌, ap, sym, map}
use Rattle.std.specs.Prelude.{find}
use Rattle.def_chase.specs.Cursors.{is_of}
use Rattle.def_chase.proofs.Bools.{and-true}
use Rattle.base_types.specs.Meanings.{fact_of}
use Rattle.set_facts.proofs.Ahead.{none_at}
use Rattle.set_facts.proofs.listed.ListedFacts.first.Goals as goal

pub returns-then-tuple-relation-clause-found : goal.returns-then-tuple-relation-clause-found
returns-then-tuple-relation-clause-found c =
    let r = c.args.relation in
    let E = c.ahead-tuple-items.result.now in
    sym (none_at (is_of r) r E c.loop-tuple.tuple-index c.tuple-item.result (λ v h. h) c.if-tuple-relation.true c.ahead-tuple-items.ensures.in_order c.loop-tuple-test.true c.tuple-item.is)
    ∙ c.loop-tuple.invariant ∙ c.ahead-tuple-items.ensures.all (is_of r) (λ u h. and-true (is_of r u) ∙ h)
    ∙ ap (λ D. find (is_of r) (map fact_of D)) c.as_slice.ensures.value ∙ ap (find (is_of r)) c.self.view_is
