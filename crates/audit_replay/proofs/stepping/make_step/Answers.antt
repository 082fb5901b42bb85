use Rattle.std.proofs.Common.{arith}
use Rattle.audit_replay.proofs.Placing.{numbers_stepped, step_made}
use Rattle.audit_replay.proofs.Restarting.{more_above, more_after, set_long, put_with, same_place}
use Rattle.set_facts.proofs.Groups.{held_err}
use Rattle.audit_replay.proofs.stepping.make_step.Goals as goal

pub restart_named-requires : goal.restart_named-requires
restart_named-requires c =
    let rs = c.args.updates.now in
    let k = c.args.place in
    let r = c.index-updates-place.result in
    let v = c.step.new.self in
    let long = set_long rs k v in
    record {
      place = omega (arith, long, c.requires.within);
      numbers = numbers_stepped rs k r v c.args.plan c.requires.numbers c.requires.within c.index-updates-place.is c.requires.planned c.in_ok-step.ensures.place;
      more = more_after rs k r v c.requires.within c.index-updates-place.is (more_above rs k c.requires.more);
    }

pub returns-clause-made : goal.returns-clause-made
returns-clause-made c =
    step_made c.args.updates.now c.restart_named.new.updates c.args.place c.index-updates-place.result c.step.new.self c.args.plan c.args.causes.now.items c.requires.within c.index-updates-place.is c.in_ok-step.ensures.stepped c.in_ok-restart_named.ensures.restarted

pub returns-in_err-step-clause-err : goal.returns-in_err-step-clause-err
returns-in_err-step-clause-err c =
    held_err c.from_residual.result
    (put_with c.args.updates.now c.args.place c.index-updates-place.result c.step.new.self c.requires.numbers c.requires.within c.index-updates-place.is (same_place _ _ c.in_err-step.ensures.err))
