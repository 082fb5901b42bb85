use Rattle.std.proofs.Common.{List, subst}
use Rattle.std.specs.Option.{option_map, option_copied}
use Rattle.base_types.specs.Candidates.{column_of, further_candidates, AreAll}
use Rattle.base_types.specs.Meanings.{fact_of}
use Rattle.def_chase.specs.Values.{Fact}
use Rattle.set_facts.proofs.AtHand.{none_of_relation, told_too}
use Rattle.set_facts.proofs.Further.{lacks_further, none_written}
use Rattle.set_facts.proofs.Overlays.{overlaid_in_order}
use Rattle.set_facts.specs.Overlaid.{overlaid}
use Rattle.set_facts.proofs.overlay.OverlayFacts.candidates.Goals as goal

pub returns-then-is_beside : goal.returns-then-is_beside
returns-then-is_beside g c =
    let r = c.args.relation in
    let column = option_map column_of c.args.column in
    let past = option_map fact_of (option_copied c.args.past) in
    let D = g.F.Facts.tuples c.self.inside.facts.now in
    let gone = c.self.inside.gone in
    let added = c.self.inside.added in
    let E = overlaid D gone added in
    record {
      all = subst (λ (F : List Fact). AreAll c.candidates.result F (further_candidates F r column past)) c.self.view_is
          (told_too c.candidates.result D E (further_candidates D r column past) (further_candidates E r column past) (overlaid_in_order D gone added c.self.invariant)
          (none_written D gone added c.self.invariant c.is_in_order.ensures.in_order r column past (lacks_further added r column past (none_of_relation r column added (c.is_beside-adds_none.ensures.none c.if-adds_none.true))) (none_of_relation r column gone (c.is_beside.ensures.none c.if-is_beside.true))) c.candidates.ensures.all);
    }
