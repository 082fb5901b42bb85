use Rattle.std.proofs.Common.{◌<◌, arith}
use Rattle.audit_replay.proofs.Risen.{stand_less}
use Rattle.audit_replay.proofs.places.sink_below.Goals as goal

pub down-init : goal.down-init
down-init c = λ D rs s. s

pub down-preserved : goal.down-preserved
down-preserved c =
    let more : c.args.place < c.height.result = omega arith in
    λ D rs s. stand_less D rs c.height.result c.args.place c.down.levels c.sink.new.self c.height.ensures.height more c.in_ok-sink.ensures.sunk (c.down.invariant D rs s)
