use Rattle.std.proofs.Common.{◌≡◌, ◌∙◌, ap, map, subst, sym, true, Option, Bor}
use Rattle.std.specs.Ordering.{is_le}
use Rattle.std.specs.Option.{option_map, option_copied}
use Rattle.std.specs.Prelude.{filter, find}
use Rattle.std.proofs.lemmas.Bool.{and_parts}
use Rattle.def_chase.specs.Cursors.{is_of, is_beyond}
use Rattle.def_chase.specs.Repository.{IsRepository}
use Rattle.def_chase.specs.Values.{fact_cmp}
use Rattle.def_chase.proofs.Bools.{and-true}
use Rattle.def_chase.proofs.Ranges.{least}
use Rattle.def_chase.proofs.Searches.{find_filter}
use Rattle.def_chase.proofs.Sets.{filter_in_order}
use Rattle.base_types.specs.Meanings.{fact_of}
use Rattle.base_types.specs.declared.tuples.Tuple.{Tuple}
use Rattle.set_facts.specs.Courses.{is_ahead}
use Rattle.set_facts.specs.Places.{is_from}
use Rattle.set_facts.proofs.Ahead.{has_all_that, relation_from, rest_in_order}
use Rattle.set_facts.proofs.AtHand.{filter_mapped}
use Rattle.set_facts.proofs.plain.PlainFacts.ahead.Goals as goal

pub returns-in-Some-clause-all : goal.returns-in-Some-clause-all
returns-in-Some-clause-all c = λ p within.
    let past = option_map fact_of (option_copied c.args.past) in
    ap (find p) c.range.ensures.tuples
    ∙ find_filter p (is_beyond past) (λ u h. (and_parts (is_of c.args.relation u) (is_beyond past u) (within u h)).1) c.args.self.now

pub returns-in-Some-clause-in_order : goal.returns-in-Some-clause-in_order
returns-in-Some-clause-in_order c =
    let past = option_map fact_of (option_copied c.args.past) in
    subst IsRepository (sym c.range.ensures.tuples) (filter_in_order (is_beyond past) c.args.self.now c.range.ensures.in_order)

pub returns-in-None-clause-all : goal.returns-in-None-clause-all
returns-in-None-clause-all c =
    let r = c.args.relation in
    let rest =
    ap (map fact_of) (c.range-in-None.ensures.between tt)
    ∙ filter_mapped _ (is_from (least r)) (λ k i. and-true (is_le (fact_cmp (c.least-first.ensures.least i) (fact_of k))) i) c.self.inside.tuples.keys
    ∙ ap (filter (is_from (least r))) c.self.view_is in
    has_all_that (is_ahead r (option_map fact_of (option_copied c.args.past))) (least r) c.args.self.now (map fact_of c.range-in-None.result)
    (λ u h. relation_from r u (subst (λ (o : Option (Bor Tuple)). is_ahead r (option_map fact_of (option_copied o)) u ≡ true) c.in-None.is h)) rest

pub returns-in-None-clause-in_order : goal.returns-in-None-clause-in_order
returns-in-None-clause-in_order c =
    let r = c.args.relation in
    let rest =
    ap (map fact_of) (c.range-in-None.ensures.between tt)
    ∙ filter_mapped _ (is_from (least r)) (λ k i. and-true (is_le (fact_cmp (c.least-first.ensures.least i) (fact_of k))) i) c.self.inside.tuples.keys
    ∙ ap (filter (is_from (least r))) c.self.view_is in
    rest_in_order (least r) c.args.self.now (map fact_of c.range-in-None.result) (subst IsRepository c.self.view_is c.self.invariant) rest
