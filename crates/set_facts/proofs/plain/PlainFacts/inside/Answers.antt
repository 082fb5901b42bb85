use Rattle.std.proofs.Common.{◌∙◌, ap, map, refl}
use Rattle.std.specs.Prelude.{filter}
use Rattle.base_types.specs.Meanings.{fact_of}
use Rattle.set_facts.specs.Places.{is_inside}
use Rattle.set_facts.proofs.AtHand.{filter_mapped}
use Rattle.set_facts.proofs.plain.PlainFacts.inside.Goals as goal

pub returns-clause-tuples : goal.returns-clause-tuples
returns-clause-tuples c =
    let s = fact_of c.args.past.now in
    let t = fact_of c.args.end.now in
    ap (map fact_of) (c.range.ensures.between tt)
    ∙ filter_mapped _ (is_inside s t) (λ k. refl) c.self.inside.tuples.keys
    ∙ ap (filter (is_inside s t)) c.self.view_is
