use Rattle.std.proofs.Common.{arith}
use Rattle.audit_replay.proofs.Placing.{removal_made}
use Rattle.audit_replay.proofs.Restarting.{more_above, more_after, put_with, set_long}
use Rattle.audit_replay.proofs.withdrawing.make_withdrawal.Goals as goal

pub restart_named-requires : goal.restart_named-requires
restart_named-requires c =
    let rs = c.args.updates.now in
    let k = c.args.place in
    let r = c.index-updates-place.result in
    let v = c.withdraw.new.self in
    let long = set_long rs k v in
    record {
      place = omega (arith, long, c.requires.within);
      numbers = put_with rs k r v c.requires.numbers c.requires.within c.index-updates-place.is c.withdraw.ensures.place;
      more = more_after rs k r v c.requires.within c.index-updates-place.is (more_above rs k c.requires.more);
    }

pub returns-clause-made : goal.returns-clause-made
returns-clause-made c =
    removal_made c.args.updates.now c.restart_named.new.updates c.args.place c.index-updates-place.result c.withdraw.new.self c.args.causes.now.items c.requires.within c.index-updates-place.is c.withdraw.ensures.withdrawn c.in_ok-restart_named.ensures.restarted
