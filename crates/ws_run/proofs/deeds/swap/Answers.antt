use Rattle.ws_ground.proofs.Trailing.{more_made}
use Rattle.ws_run.proofs.deeds.swap.Goals as goal

-- By its four parts.
pub returns : goal.returns
returns c = record {
  grown = more_made _ _ _ _ _ _ c.draw.ensures.grown (more_made _ _ _ _ _ _ c.add_all.ensures.grown (more_made _ _ _ _ _ _ c.remove_all.ensures.grown c.settle.ensures.grown));
}
