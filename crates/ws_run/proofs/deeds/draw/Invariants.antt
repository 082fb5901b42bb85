use Rattle.ws_ground.specs.Trails.{HasGrown}
use Rattle.ws_run.proofs.deeds.draw.Given as goal

-- The ground has grown by the ops so far.
abbrev pub invariant-loop-number : goal.invariant-loop-number
invariant-loop-number l = HasGrown l.fn.ground l.ground
