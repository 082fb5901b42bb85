use Rattle.std.proofs.Common.{◌<◌, length, arith}
use Rattle.std.proofs.Common.{◌∙◌}
use Rattle.audit_replay.specs.Causes.{readers_in}
use Rattle.audit_replay.proofs.Restarting.{more_there, more_after, put_with, turned, all_turned, same_place}
use Rattle.set_facts.proofs.Groups.{held_err}
use Rattle.audit_replay.proofs.restarts.restart_named.Goals as goal

pub restart_if_named-requires : goal.restart_if_named-requires
restart_if_named-requires c =
    let l : c.loop-place.place < length c.loop-place.updates = omega arith in
    record { more = more_there c.loop-place.updates c.loop-place.place c.index-updates-place.result l c.index-updates-place.is c.loop-place.invariant.more }

pub loop-place-preserved : goal.loop-place-preserved
loop-place-preserved c =
    let rs = c.loop-place.updates in
    let k = c.loop-place.place in
    let r = c.index-updates-place.result in
    let v = c.restart_if_named.new.audited in
    let l : k < length rs = omega arith in
    record {
      numbers = put_with rs k r v c.loop-place.invariant.numbers l c.index-updates-place.is c.in_ok-restart_if_named.ensures.place;
      more = more_after rs k r v l c.index-updates-place.is c.loop-place.invariant.more;
      left = λ ms B. turned ms B rs k r v c.args.causes.now.items c.loop-place.invariant.numbers l c.index-updates-place.is c.in_ok-restart_if_named.ensures.restarted ∙ c.loop-place.invariant.left ms B;
    }

pub returns-clause-restarted : goal.returns-clause-restarted
returns-clause-restarted c = λ ms B. all_turned ms B c.loop-place.updates c.loop-place.place (readers_in c.args.causes.now.items) _ (omega arith) (c.loop-place.invariant.left ms B)

pub returns-in_err-restart_if_named-clause-err : goal.returns-in_err-restart_if_named-clause-err
returns-in_err-restart_if_named-clause-err c =
    let rs = c.loop-place.updates in
    let k = c.loop-place.place in
    let r = c.index-updates-place.result in
    let l : k < length rs = omega arith in
    held_err c.from_residual.result (put_with rs k r c.restart_if_named.new.audited c.loop-place.invariant.numbers l c.index-updates-place.is (same_place _ _ c.in_err-restart_if_named.ensures.err))
