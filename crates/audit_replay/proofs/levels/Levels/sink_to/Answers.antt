use Rattle.std.proofs.Common.{◌≤◌, ◌+◌, length, arith}
use Rattle.audit_replay.proofs.Leftover.{sinks}
use Rattle.set_facts.proofs.Groups.{held_err}
use Rattle.audit_replay.proofs.levels.Levels.sink_to.Goals as goal

pub loop-self-preserved : goal.loop-self-preserved
loop-self-preserved c =
    let many = c.height.ensures.height in
    let more = c.loop-self-test.true in
    let above : c.args.height + 2 ≤ length c.loop-self.self = omega (arith, many, more) in
    let r = sinks c.args.self.now c.loop-self.self c.sink.new.self c.args.height above c.loop-self.invariant.within c.loop-self.invariant.sunk c.in_ok-sink.ensures.sunk in
    record { above = r.0; within = r.1; sunk = r.2 }

pub returns-in_err-sink-clause-err : goal.returns-in_err-sink-clause-err
returns-in_err-sink-clause-err c =
    let many = c.height.ensures.height in
    let more = c.loop-self-test.true in
    let fewer = c.in_err-sink.ensures.err in
    held_err c.from_residual.result (omega (arith, many, more, fewer), omega (arith, fewer, c.loop-self.invariant.within))
