use Rattle.std.proofs.Common.{◌∙◌, ap, sym}
use Rattle.def_chase.specs.Specific.{image_of}
use Rattle.base_types.specs.Meanings.{datum_of, fact_of}
use Rattle.base_types.specs.Maps.{images_of}
use Rattle.chase_unifier.specs.Moves.{give}
use Rattle.chase_unifier.proofs.Moving.{given_at}
use Rattle.chase_unifier.proofs.Graphs.{taking_made, takes_there}
use Rattle.chase_unifier.proofs.specific.specific_by.Goals as goal

pub loop-value-preserved : goal.loop-value-preserved
loop-value-preserved c =
    let v = datum_of c.value-item.result in
    given_at (image_of (fact_of c.args.tuple.now) (fact_of c.args.specific.now)) c.as_slice-value-items.result.now c.loop-value.value-index c.value-item.result (images_of c.loop-value.sub) (images_of c.give.new.sub) c.loop-value-test.true c.value-item.is c.loop-value.invariant
    (c.in_ok-give.ensures.ok ∙ ap (give (images_of c.loop-value.sub) v) c.image_of.ensures.image)

pub returns-clause-value : goal.returns-clause-value
returns-clause-value c =
    taking_made c.args.tuple.now c.args.specific.now c.as_slice-value-items.result.now c.loop-value.value-index (images_of c.loop-value.sub) (sym c.is_more_specific.ensures.answer ∙ c.if-not-is_more_specific.false) c.loop-value-test.false c.as_slice-value-items.ensures.items c.loop-value.invariant

pub returns-clause-takes : goal.returns-clause-takes
returns-clause-takes c =
    takes_there c.args.tuple.now c.args.specific.now c.as_slice-value-items.result.now c.loop-value.value-index (images_of c.loop-value.sub) (sym c.is_more_specific.ensures.answer ∙ c.if-not-is_more_specific.false) c.loop-value-test.false c.as_slice-value-items.ensures.items c.loop-value.invariant
