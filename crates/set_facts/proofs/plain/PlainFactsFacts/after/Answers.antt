use Rattle.std.proofs.Common.{◌∙◌, ap, sym}
use Rattle.std.specs.Ordering.{is_lt}
use Rattle.def_chase.specs.Values.{fact_cmp}
use Rattle.def_chase.specs.Cursors.{is_of, kept_if}
use Rattle.def_chase.proofs.Bools.{and-true}
use Rattle.def_chase.proofs.Ranges.{above, first_above}
use Rattle.def_chase.proofs.Searches.{find_same}
use Rattle.base_types.specs.Meanings.{fact_of}
use Rattle.set_facts.proofs.plain.PlainFactsFacts.after.Goals as goal

pub returns-clause-found : goal.returns-clause-found
returns-clause-found c =
    let t = fact_of c.args.tuple.now in
    c.of_relation.ensures.kept
    ∙ ap (kept_if (is_of t.relation)) (c.beyond.ensures.found ∙ find_same (λ u. is_lt (fact_cmp t u)) (above t) (λ u. sym (and-true (is_lt (fact_cmp t u)))) c.args.self.now)
    ∙ first_above t c.args.self.now c.beyond.ensures.in_order
