use Rattle.std.proofs.Common.{◌∙◌, ◌&&◌, ap, sym, map}
use Rattle.std.specs.Option.{option_map, option_copied}
use Rattle.std.specs.Prelude.{find}
use Rattle.std.proofs.lemmas.Bool.{and_parts}
use Rattle.def_chase.specs.Cursors.{is_of, is_beyond, has_at, is_scanned}
use Rattle.base_types.specs.Meanings.{fact_of, datum_of}
use Rattle.set_facts.proofs.Ahead.{none_at, scanned_ahead}
use Rattle.set_facts.proofs.listed.ListedFacts.scan.Goals as goal

pub returns-then-tuple-relation-clause-found : goal.returns-then-tuple-relation-clause-found
returns-then-tuple-relation-clause-found c =
    let r = c.args.relation in
    let past = option_map fact_of (option_copied c.args.past) in
    let p = is_scanned r c.args.column (datum_of c.args.value.now) past in
    let E = c.ahead-tuple-items.result.now in
    sym (none_at p r E c.loop-tuple.tuple-index c.tuple-item.result (λ v h. (and_parts (is_of r v) (is_beyond past v && has_at c.args.column (datum_of c.args.value.now) v) h).0) c.if-tuple-relation.true c.ahead-tuple-items.ensures.in_order c.loop-tuple-test.true c.tuple-item.is)
    ∙ c.loop-tuple.invariant ∙ c.ahead-tuple-items.ensures.all p (scanned_ahead r c.args.column (datum_of c.args.value.now) past)
    ∙ ap (λ D. find p (map fact_of D)) c.as_slice.ensures.value ∙ ap (find p) c.self.view_is
