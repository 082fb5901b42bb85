use Rattle.std.proofs.Common.{◌≡◌, ◌<◌, ap, suc, List, [], length, map, arith}
use Rattle.base_types.specs.Meanings.{change_of}
use Rattle.def_chase.specs.Values.{Fact}
use Rattle.audit_replay.proofs.Risen.{between_at, stand_raised, stand_there}
use Rattle.audit_replay.proofs.places.rise_to.Goals as goal

pub trail-requires : goal.trail-requires
trail-requires c =
    let few : c.height.result < c.args.place = omega arith in
    let l : c.height-next.result < length c.args.updates.now = omega (arith, few, c.height.ensures.height, c.height-next.ensures.height, c.requires.within) in
    record { between = between_at c.args.updates.now c.height-next.result c.index-updates-next.result c.requires.between l c.index-updates-next.is }

pub up-preserved : goal.up-preserved
up-preserved c =
    let few : c.height.result < c.args.place = omega arith in
    let l : c.height-next.result < length c.args.updates.now = omega (arith, few, c.height.ensures.height, c.height-next.ensures.height, c.requires.within) in
    let long : length c.rise.new.self ≡ suc (length c.up.levels) = ap (λ (Ds : List (List Fact)). length Ds) c.in_ok-rise.ensures.raised in
    record {
      stand =
          λ D s. stand_raised D c.args.updates.now c.height-next.result c.index-updates-next.result (map change_of c.trail.result.now) c.up.levels c.rise.new.self c.height-next.ensures.height l c.index-updates-next.is (c.trail.ensures.trail [] 0)
          c.in_ok-rise.ensures.raised (c.up.invariant.stand D s);
      most = omega (arith, few, long, c.height.ensures.height);
    }

pub returns : goal.returns
returns c =
    let exact : length c.up.levels ≡ suc c.args.place = omega (arith, c.height.ensures.height, c.up.invariant.most) in
    record { there = λ D s. stand_there D c.args.updates.now c.args.place c.up.levels exact (c.up.invariant.stand D s) }
