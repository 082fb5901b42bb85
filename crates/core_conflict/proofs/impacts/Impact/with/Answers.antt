use Rattle.std.proofs.Common.{◌≡◌, ◌<◌, ◌≤◌, length, map, arith}
use Rattle.base_types.specs.Contents.{rules_in}
use Rattle.base_types.specs.Meanings.{change_of}
use Rattle.core_conflict.specs.Impacts.{IsImpactWithin, has_change}
use Rattle.core_conflict.proofs.Within.{impact_itself, impact_more, change_still}
use Rattle.core_conflict.proofs.Gathering.{begins, goes_on, ends}
use Rattle.core_conflict.proofs.impacts.Impact.with.Goals as goal

pub loop-write-init : goal.loop-write-init
loop-write-init c = record { more = impact_itself c.args.self; has = begins IsImpactWithin (λ v. has_change v (rules_in c.args.mappings.now) c.args.sense) change_of (impact_more) (λ v w k. change_still (rules_in c.args.mappings.now) c.args.sense v w k) c.args.writes.now c.args.self }

pub loop-write-preserved : goal.loop-write-preserved
loop-write-preserved c =
    let l : c.loop-write.write-index < length c.args.writes.now = omega arith in
    record {
      more = impact_more c.args.self c.loop-write.all c.with_one-all.result c.loop-write.invariant.more c.with_one-all.ensures.more;
      has = goes_on IsImpactWithin (λ v. has_change v (rules_in c.args.mappings.now) c.args.sense) change_of (impact_more) (λ v w k. change_still (rules_in c.args.mappings.now) c.args.sense v w k) c.args.writes.now c.loop-write.write-index c.write-item.result c.loop-write.all c.with_one-all.result l c.write-item.is c.with_one-all.ensures.more c.with_one-all.ensures.has c.loop-write.invariant.has;
    }

pub returns-clause-has : goal.returns-clause-has
returns-clause-has c =
    let all : c.loop-write.write-index ≡ length c.args.writes.now = omega arith in
    ends IsImpactWithin (λ v. has_change v (rules_in c.args.mappings.now) c.args.sense) change_of (impact_more) (λ v w k. change_still (rules_in c.args.mappings.now) c.args.sense v w k) c.args.writes.now c.loop-write.write-index c.loop-write.all all (impact_itself c.loop-write.all) c.loop-write.invariant.has
