use Rattle.std.proofs.Common.{◌≡◌, ◌∙◌, ap, sym}
use Rattle.def_chase.specs.Specific.{image_of}
use Rattle.def_chase.specs.Unifier.{lesser, least_after}
use Rattle.base_types.specs.Meanings.{datum_of, fact_of}
use Rattle.chase_unifier.proofs.Ends.{after_more, least_more, takes_lesser, keeps_lesser}
use Rattle.chase_unifier.proofs.unifying.least_onwards.Goals as goal
use Rattle.chase_unifier.proofs.unifying.least_onwards.Goals.{then-lt, else-lt}

pub loop-step-preserved : goal.loop-step-preserved
loop-step-preserved c =
    let g = image_of (fact_of c.args.tuple.now) (fact_of c.args.specific.now) in
    let n = c.loop-step._step in
    let x = datum_of c.args.value.now in
    let old = datum_of c.loop-step.least.now in
    let next = datum_of c.image_of-next.result.now in
    let moved = c.image_of-next.ensures.image ∙ ap g c.loop-step.invariant.next in
    let taken : datum_of c.if-lt.least.now ≡ lesser old next = elim c.if-lt.branch [
      | then-lt w ↦ ap (λ v. datum_of v.now) w.least-is ∙ takes_lesser old next (sym c.lt.ensures ∙ w.if-lt.true)
      | else-lt w ↦ ap (λ v. datum_of v.now) w.least-is ∙ keeps_lesser old next (sym c.lt.ensures ∙ w.if-lt.false)
    ] in
    record {
      next = moved ∙ sym (after_more g n x);
      least = taken ∙ ap (λ y. lesser y next) c.loop-step.invariant.least ∙ ap (lesser (least_after n g x)) moved ∙ sym (least_more g n x);
    }
