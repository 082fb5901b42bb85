use Rattle.std.proofs.Common.{◌≡◌, ◌<◌, ◌≤◌, length, map, arith}
use Rattle.base_types.specs.Meanings.{fact_of, rule_of}
use Rattle.core_conflict.specs.Impacts.{IsImpactWithin, has_rule}
use Rattle.core_conflict.proofs.Within.{impact_itself, impact_more, rule_still}
use Rattle.core_conflict.proofs.Gathering.{begins, goes_on, ends}
use Rattle.core_conflict.proofs.impacts.Impact.by_each.Goals as goal

pub loop-mapping-init : goal.loop-mapping-init
loop-mapping-init c = record { more = impact_itself c.args.self; has = begins IsImpactWithin (λ v. has_rule v c.args.adds (fact_of c.args.tuple.now)) rule_of (impact_more) (λ v w m. rule_still c.args.adds (fact_of c.args.tuple.now) v w m) c.args.mappings.now c.args.self }

pub loop-mapping-preserved : goal.loop-mapping-preserved
loop-mapping-preserved c =
    let l : c.loop-mapping.mapping-index < length c.args.mappings.now = omega arith in
    record {
      more = impact_more c.args.self c.loop-mapping.all c.by-all.result c.loop-mapping.invariant.more c.by-all.ensures.more;
      has = goes_on IsImpactWithin (λ v. has_rule v c.args.adds (fact_of c.args.tuple.now)) rule_of (impact_more) (λ v w m. rule_still c.args.adds (fact_of c.args.tuple.now) v w m) c.args.mappings.now c.loop-mapping.mapping-index c.mapping-item.result c.loop-mapping.all c.by-all.result l c.mapping-item.is c.by-all.ensures.more c.by-all.ensures.has c.loop-mapping.invariant.has;
    }

pub returns-clause-has : goal.returns-clause-has
returns-clause-has c =
    let all : c.loop-mapping.mapping-index ≡ length c.args.mappings.now = omega arith in
    ends IsImpactWithin (λ v. has_rule v c.args.adds (fact_of c.args.tuple.now)) rule_of (impact_more) (λ v w m. rule_still c.args.adds (fact_of c.args.tuple.now) v w m) c.args.mappings.now c.loop-mapping.mapping-index c.loop-mapping.all all (impact_itself c.loop-mapping.all) c.loop-mapping.invariant.has
