use Rattle.std.proofs.Common.{◌≡◌, map, subst, sym, true, Option, Bor}
use Rattle.std.specs.Option.{option_map, option_copied}
use Rattle.def_chase.specs.Values.{Fact}
use Rattle.base_types.specs.Meanings.{fact_of}
use Rattle.base_types.specs.declared.tuples.Tuple.{Tuple}
use Rattle.set_facts.specs.Courses.{is_ahead}
use Rattle.set_facts.specs.Places.{is_from}
use Rattle.set_facts.proofs.Ahead.{has_all_that, ahead_from, relation_from, rest_in_order}
use Rattle.set_facts.proofs.listed.ahead.Goals as goal

pub returns-in-Some-clause-all : goal.returns-in-Some-clause-all
returns-in-Some-clause-all c =
    let t = fact_of c.in-Some.before.now in
    has_all_that (is_ahead c.args.relation (option_map fact_of (option_copied c.args.past))) t (map fact_of c.args.tuples.now) (map fact_of c.from.result.now)
    (λ u h. ahead_from c.args.relation t u (subst (λ (o : Option (Bor Tuple)). is_ahead c.args.relation (option_map fact_of (option_copied o)) u ≡ true) c.in-Some.is h)) c.from.ensures.rest

pub returns-in-Some-clause-in_order : goal.returns-in-Some-clause-in_order
returns-in-Some-clause-in_order c = rest_in_order (fact_of c.in-Some.before.now) (map fact_of c.args.tuples.now) (map fact_of c.from.result.now) c.requires.in_order c.from.ensures.rest

pub returns-in-None-clause-all : goal.returns-in-None-clause-all
returns-in-None-clause-all c =
    let t = fact_of c.least-least.result in
    has_all_that (is_ahead c.args.relation (option_map fact_of (option_copied c.args.past))) t (map fact_of c.args.tuples.now) (map fact_of c.from-in-None.result.now)
    (λ u h. subst (λ (f : Fact). is_from f u ≡ true) (sym c.least-least.ensures.least) (relation_from c.args.relation u (subst (λ (o : Option (Bor Tuple)). is_ahead c.args.relation (option_map fact_of (option_copied o)) u ≡ true) c.in-None.is h))) c.from-in-None.ensures.rest

pub returns-in-None-clause-in_order : goal.returns-in-None-clause-in_order
returns-in-None-clause-in_order c = rest_in_order (fact_of c.least-least.result) (map fact_of c.args.tuples.now) (map fact_of c.from-in-None.result.now) c.requires.in_order c.from-in-None.ensures.rest
