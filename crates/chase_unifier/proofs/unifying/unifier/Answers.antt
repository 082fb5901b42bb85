use Rattle.std.proofs.Common.{◌∙◌, ap}
use Rattle.def_chase.specs.Unifier.{unifier}
use Rattle.base_types.specs.Meanings.{datum_of, fact_of}
use Rattle.base_types.specs.Maps.{images_of}
use Rattle.chase_unifier.specs.Moves.{give}
use Rattle.chase_unifier.proofs.Moving.{given_at}
use Rattle.chase_unifier.proofs.Graphs.{unifier_made, unites_both, end_found}
use Rattle.chase_unifier.proofs.unifying.unifier.Goals as goal

pub loop-value-preserved : goal.loop-value-preserved
loop-value-preserved c =
    let t = fact_of c.args.tuple.now in
    let s = fact_of c.args.specific.now in
    given_at (unifier t s) c.as_slice-value-items.result.now c.loop-value.value-index c.value-item.result (images_of c.loop-value.sub) (images_of c.give.new.sub) c.loop-value-test.true c.value-item.is c.loop-value.invariant
    (c.in_ok-give.ensures.ok ∙ ap (give (images_of c.loop-value.sub) (datum_of c.value-item.result))
    (end_found c.args.tuple.now c.args.specific.now (datum_of c.value-item.result) (datum_of c.far_along.result.now) (datum_of c.least_onwards-end.result.now) c.far_along.ensures c.least_onwards-end.ensures))

pub returns-clause-value : goal.returns-clause-value
returns-clause-value c =
    unifier_made c.args.tuple.now c.args.specific.now c.as_slice-value-items.result.now c.loop-value.value-index (images_of c.loop-value.sub) c.requires c.loop-value-test.false c.as_slice-value-items.ensures.items c.loop-value.invariant

pub returns-clause-unites : goal.returns-clause-unites
returns-clause-unites c =
    unites_both c.args.tuple.now c.args.specific.now c.as_slice-value-items.result.now c.loop-value.value-index (images_of c.loop-value.sub) c.requires c.loop-value-test.false c.as_slice-value-items.ensures.items c.loop-value.invariant
