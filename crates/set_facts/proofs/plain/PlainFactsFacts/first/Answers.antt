use Rattle.std.proofs.Common.{◌∙◌, ap, ◌&&◌, true}
use Rattle.std.specs.Ordering.{is_le}
use Rattle.def_chase.specs.Values.{fact_cmp}
use Rattle.def_chase.specs.Cursors.{is_of, kept_if, first_of}
use Rattle.def_chase.proofs.Ranges.{from_least, first_from}
use Rattle.base_types.specs.Meanings.{fact_of}
use Rattle.set_facts.proofs.Reading.{next_is_find}
use Rattle.set_facts.proofs.plain.PlainFactsFacts.first.Goals as goal

pub returns-clause-found : goal.returns-clause-found
returns-clause-found c =
    c.of_relation.ensures.kept
    ∙ ap (kept_if (is_of c.args.relation))
    (next_is_find _ (from_least c.args.relation) (λ k. ap (λ F. is_le (fact_cmp F (fact_of k)) && true) c.least-least.ensures.least) c.self.inside.tuples.keys _ _ _ (c.range.ensures.between tt) c.next-found.ensures.steps)
    ∙ first_from c.args.relation _ c.self.invariant
    ∙ ap (λ D. first_of D c.args.relation) c.self.view_is
