use Rattle.std.proofs.Common.{◌∙◌, ap, map, refl, sym, Some, None}
use Rattle.std.specs.Option.{option_map, option_copied}
use Rattle.std.specs.Prelude.{filter}
use Rattle.def_chase.specs.Cursors.{is_beyond}
use Rattle.def_chase.proofs.Bools.{and-true}
use Rattle.base_types.specs.Meanings.{fact_of}
use Rattle.set_facts.proofs.AtHand.{filter_mapped}
use Rattle.set_facts.proofs.plain.PlainFacts.range.Goals as goal

pub returns-in-Some-clause-tuples : goal.returns-in-Some-clause-tuples
returns-in-Some-clause-tuples c =
    let t = fact_of c.in-Some.tuple.now in
    ap (map fact_of) (c.range.ensures.between tt)
    ∙ filter_mapped _ (is_beyond (Some t)) (λ k. and-true (is_beyond (Some t) (fact_of k))) c.self.inside.tuples.keys
    ∙ (λ i. filter (is_beyond (option_map fact_of (option_copied (sym c.in-Some.is i)))) (c.self.view_is i))

pub returns-in-None-clause-tuples : goal.returns-in-None-clause-tuples
returns-in-None-clause-tuples c =
    ap (map fact_of) (c.range-in-None.ensures.between tt)
    ∙ filter_mapped _ (is_beyond None) (λ k. refl) c.self.inside.tuples.keys
    ∙ (λ i. filter (is_beyond (option_map fact_of (option_copied (sym c.in-None.is i)))) (c.self.view_is i))
