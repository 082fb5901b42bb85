use Rattle.std.proofs.Common.{◌∙◌, sym, refl}
use Rattle.std.specs.Option.{option_map, option_copied}
use Rattle.std.specs.Ordering.{is_lt}
use Rattle.std.specs.Prelude.{find}
use Rattle.def_chase.specs.Values.{fact_cmp}
use Rattle.def_chase.specs.Cursors.{is_beyond}
use Rattle.def_chase.proofs.Bools.{and-true}
use Rattle.def_chase.proofs.Ranges.{above}
use Rattle.def_chase.proofs.Searches.{find_same}
use Rattle.base_types.specs.Meanings.{fact_of}
use Rattle.set_facts.proofs.Reading.{next_is_find}
use Rattle.set_facts.proofs.plain.PlainFactsFacts.beyond.Goals as goal

pub returns-in-Some-clause-found : goal.returns-in-Some-clause-found
returns-in-Some-clause-found c =
    let t = fact_of c.in-Some.tuple.now in
    next_is_find _ (above t) (λ k. refl) c.self.inside.tuples.keys _ _ _ (c.range.ensures.between tt) c.next.ensures.steps
    ∙ find_same (above t) (λ u. is_lt (fact_cmp t u)) (λ u. and-true (is_lt (fact_cmp t u))) _
    ∙ (λ i. find (is_beyond (option_map fact_of (option_copied (sym c.in-Some.is i)))) (c.self.view_is i))
