use Rattle.std.proofs.Common.{◌∙◌, ap, map, not, ◌&&◌, sym}
use Rattle.std.specs.Ordering.{is_le}
use Rattle.std.specs.Prelude.{filter}
use Rattle.def_chase.specs.Values.{fact_cmp}
use Rattle.def_chase.specs.Cursors.{is_of}
use Rattle.def_chase.proofs.Ranges.{least}
use Rattle.base_types.specs.Meanings.{fact_of}
use Rattle.set_facts.proofs.AtHand.{in_relation}
use Rattle.set_facts.proofs.plain.PlainFacts.between.Goals as goal

pub returns-clause-tuples : goal.returns-clause-tuples
returns-clause-tuples c =
    let first = c.least-first.ensures.least in
    let end = c.least-end.ensures.least ∙ ap least c.requires.next in
    ap (map fact_of) (c.range.ensures.between tt)
    ∙ sym (in_relation _ c.args.relation (λ k i. is_le (fact_cmp (first i) (fact_of k)) && not (is_le (fact_cmp (end i) (fact_of k)))) c.self.inside.tuples.keys)
    ∙ ap (filter (is_of c.args.relation)) c.self.view_is
