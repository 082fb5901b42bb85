use Rattle.std.proofs.Common.{◌∙◌, sym, subst, []}
use Rattle.std.specs.Option.{option_map, option_copied}
use Rattle.std.specs.Prelude.{filter}
use Rattle.def_chase.specs.Cursors.{is_beyond}
use Rattle.def_chase.specs.Repository.{IsRepository}
use Rattle.base_types.specs.Candidates.{column_of, further_candidates}
use Rattle.base_types.specs.Meanings.{datum_of, fact_of}
use Rattle.set_facts.proofs.AtHand.{group_further, told_too}
use Rattle.set_facts.proofs.Held.{empty_in_order}
use Rattle.set_facts.proofs.indexed.IndexedFactsFacts.candidates.Goals as goal

pub returns-in-Some-kept : goal.returns-in-Some-kept
returns-in-Some-kept c =
    let column = c.in-Some.column in
    let past = option_map fact_of (option_copied c.args.past) in
    let G = c.in-Some-kept.group.now in
    let these = (λ i. further_candidates (sym c.self.view_is i) c.args.relation (option_map column_of (c.in-Some.is i)) past)
    ∙ group_further c.self.inside.all c.self.inside.relations.items c.args.relation column.number (datum_of column.value.now) past G c.self.invariant.0 c.self.invariant.1 c.in-Some-kept.ensures.kept c.at_hand.ensures.in_order in
    record { all = told_too c.at_hand.result G c.args.self.now (filter (is_beyond past) G) (further_candidates c.args.self.now c.args.relation (option_map column_of c.args.column) past) (subst IsRepository c.self.view_is c.self.invariant.0) these c.at_hand.ensures.all }

pub returns-in-None-kept : goal.returns-in-None-kept
returns-in-None-kept c =
    let column = c.in-Some.column in
    let past = option_map fact_of (option_copied c.args.past) in
    record {
      all = (
        subst IsRepository c.self.view_is c.self.invariant.0,
        (λ i. further_candidates (sym c.self.view_is i) c.args.relation (option_map column_of (c.in-Some.is i)) past)
            ∙ group_further c.self.inside.all c.self.inside.relations.items c.args.relation column.number (datum_of column.value.now) past [] c.self.invariant.0 c.self.invariant.1 c.in-None-kept.ensures.kept empty_in_order,
      );
    }
