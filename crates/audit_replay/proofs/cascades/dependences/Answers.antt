use Rattle.audit_replay.proofs.Risen.{risen_above, sunk_back}
use Rattle.audit_replay.proofs.cascades.dependences.Goals as goal

pub sink_to-requires : goal.sink_to-requires
sink_to-requires c = record { above = risen_above _ _ c.height-height.result c.in_ok-causes.ensures.levels c.height-height.ensures.height }

pub returns : goal.returns
returns c = record {
  causes = c.in_ok-causes.ensures.causes;
  levels = sunk_back _ _ _ c.height-height.result c.in_ok-causes.ensures.levels c.height-height.ensures.height c.in_ok-sink_to.ensures.sunk;
}
