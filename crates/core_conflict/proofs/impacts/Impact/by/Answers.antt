use Rattle.std.proofs.Common.{◌≡◌, true, map, subst, List, ◌&&◌}
use Rattle.base_types.specs.Meanings.{fact_of, pattern_of, rule_of}
use Rattle.base_types.specs.declared.mappings.Atom.{Atom}
use Rattle.def_chase.proofs.Bools.{both}
use Rattle.core_conflict.specs.Impacts.{has_joins, has_right}
use Rattle.core_conflict.proofs.Within.{joins_still}
use Rattle.core_conflict.proofs.impacts.Impact.by.Goals as goal

pub returns-clause-has : goal.returns-clause-has
returns-clause-has c =
    let t = fact_of c.args.tuple.now in
    let l = c.as_slice-left.ensures.items in
    let r = c.as_slice-right.ensures.items in
    let at = c.as_slice-left.result.now in
    let first : has_joins c.with.result (map pattern_of at) (map pattern_of at) t ≡ true =
    joins_still (map pattern_of at) (map pattern_of at) t c.with-forward.result c.with.result c.with.ensures.more c.with-forward.ensures.has in
    let one : has_joins c.with.result (rule_of c.args.mapping.now).left (rule_of c.args.mapping.now).left t ≡ true =
    subst (λ (as' : List Atom). has_joins c.with.result (map pattern_of as') (map pattern_of as') t ≡ true) l first in
    let two : has_joins c.with.result (rule_of c.args.mapping.now).left (rule_of c.args.mapping.now).right t ≡ true =
    subst (λ (as' : List Atom). has_joins c.with.result (map pattern_of as') (rule_of c.args.mapping.now).right t ≡ true) l
    (subst (λ (as' : List Atom). has_joins c.with.result (map pattern_of at) (map pattern_of as') t ≡ true) r c.with.ensures.has) in
    let back : has_joins c.with_right.result (rule_of c.args.mapping.now).right (rule_of c.args.mapping.now).left t ≡ true =
    joins_still (rule_of c.args.mapping.now).right (rule_of c.args.mapping.now).left t c.with-backward.result c.with_right.result c.with_right.ensures.more
    (subst (λ (as' : List Atom). has_joins c.with-backward.result (rule_of c.args.mapping.now).right (map pattern_of as') t ≡ true) l
    (subst (λ (as' : List Atom). has_joins c.with-backward.result (map pattern_of as') (map pattern_of at) t ≡ true) r c.with-backward.ensures.has)) in
    let met : has_right c.with_right.result (rule_of c.args.mapping.now).right c.args.adds t ≡ true =
    subst (λ (as' : List Atom). has_right c.with_right.result (map pattern_of as') c.args.adds t ≡ true) r c.with_right.ensures.has in
    both (has_joins c.with.result (rule_of c.args.mapping.now).left (rule_of c.args.mapping.now).left t && has_joins c.with.result (rule_of c.args.mapping.now).left (rule_of c.args.mapping.now).right t)
    (has_joins c.with_right.result (rule_of c.args.mapping.now).right (rule_of c.args.mapping.now).left t && has_right c.with_right.result (rule_of c.args.mapping.now).right c.args.adds t)
    (both (has_joins c.with.result (rule_of c.args.mapping.now).left (rule_of c.args.mapping.now).left t) (has_joins c.with.result (rule_of c.args.mapping.now).left (rule_of c.args.mapping.now).right t) one two)
    (both (has_joins c.with_right.result (rule_of c.args.mapping.now).right (rule_of c.args.mapping.now).left t) (has_right c.with_right.result (rule_of c.args.mapping.now).right c.args.adds t) back met)
