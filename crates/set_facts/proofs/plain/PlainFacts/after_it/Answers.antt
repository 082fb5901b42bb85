use Rattle.std.proofs.Common.{◌∙◌, ap, map, not, ◌&&◌, Some}
use Rattle.std.specs.Ordering.{is_le}
use Rattle.std.specs.Prelude.{filter}
use Rattle.def_chase.specs.Cursors.{is_past, is_beyond}
use Rattle.def_chase.specs.Values.{fact_cmp}
use Rattle.def_chase.proofs.Ranges.{least}
use Rattle.base_types.specs.Meanings.{fact_of}
use Rattle.set_facts.proofs.AtHand.{past_in_range}
use Rattle.set_facts.proofs.plain.PlainFacts.after_it.Goals as goal

pub returns-clause-tuples : goal.returns-clause-tuples
returns-clause-tuples c =
    let t = fact_of c.args.tuple.now in
    let end = c.least-end.ensures.least ∙ ap least c.requires.next in
    ap (map fact_of) (c.range.ensures.between tt)
    ∙ past_in_range _ t (λ k i. is_beyond (Some t) (fact_of k) && not (is_le (fact_cmp (end i) (fact_of k)))) c.self.inside.tuples.keys
    ∙ ap (filter (is_past t)) c.self.view_is
