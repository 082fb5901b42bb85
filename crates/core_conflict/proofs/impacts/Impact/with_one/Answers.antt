use Rattle.std.proofs.Common.{◌≡◌, true, map, subst, Bool, List}
use Rattle.std.specs.List.{list_all}
use Rattle.base_types.specs.Contents.{rules_in}
use Rattle.base_types.specs.Meanings.{change_of, fact_of, rule_of}
use Rattle.def_chase.proofs.Bools.{both}
use Rattle.base_types.specs.declared.mappings.Mapping.{Mapping}
use Rattle.def_chase.specs.Values.{Fact}
use Rattle.core_conflict.specs.Concerns.{adds, tuple_of}
use Rattle.core_conflict.specs.Impacts.{has_tuple_asked, has_rule}
use Rattle.core_conflict.proofs.Within.{impact_more, asked_still}
use Rattle.core_conflict.proofs.impacts.Impact.with_one.Goals as goal

pub returns-clause-more : goal.returns-clause-more
returns-clause-more c = impact_more c.args.self c.asked_for-asked.result c.by_each.result c.asked_for-asked.ensures.more c.by_each.ensures.more

pub returns-clause-has : goal.returns-clause-has
returns-clause-has c =
    let t : Fact = tuple_of (change_of c.args.write.now) in
    let is : fact_of c.tuple_of-tuple.result.now ≡ t = c.tuple_of-tuple.ensures in
    let ask : has_tuple_asked c.by_each.result t ≡ true =
    subst (λ (x : Fact). has_tuple_asked c.by_each.result x ≡ true) is (asked_still c.asked_for-asked.result c.by_each.result (fact_of c.tuple_of-tuple.result.now) c.by_each.ensures.more c.asked_for-asked.ensures.has) in
    let by : list_all (has_rule c.by_each.result (adds c.args.sense (change_of c.args.write.now)) t) (rules_in c.args.mappings.now) ≡ true =
    subst (λ (b : Bool). list_all (has_rule c.by_each.result b t) (rules_in c.args.mappings.now) ≡ true) c.adds.ensures
    (subst (λ (x : Fact). list_all (has_rule c.by_each.result c.adds.result x) (rules_in c.args.mappings.now) ≡ true) is
    (subst (λ (ms : List Mapping). list_all (has_rule c.by_each.result c.adds.result (fact_of c.tuple_of-tuple.result.now)) (map rule_of ms) ≡ true) c.as_slice.ensures.items c.by_each.ensures.has)) in
    both (has_tuple_asked c.by_each.result t) (list_all (has_rule c.by_each.result (adds c.args.sense (change_of c.args.write.now)) t) (rules_in c.args.mappings.now)) ask by
