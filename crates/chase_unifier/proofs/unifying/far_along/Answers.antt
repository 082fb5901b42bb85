use Rattle.std.proofs.Common.{◌∙◌, ap, sym}
use Rattle.def_chase.specs.Specific.{image_of}
use Rattle.base_types.specs.Meanings.{datum_of, fact_of}
use Rattle.chase_unifier.proofs.Ends.{after_more}
use Rattle.chase_unifier.proofs.unifying.far_along.Goals as goal

pub loop-step-preserved : goal.loop-step-preserved
loop-step-preserved c =
    let g = image_of (fact_of c.args.tuple.now) (fact_of c.args.specific.now) in
    c.image_of-reached.ensures.image ∙ ap g c.loop-step.invariant ∙ sym (after_more g c.loop-step._step (datum_of c.args.value.now))
