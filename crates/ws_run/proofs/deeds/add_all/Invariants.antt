use Rattle.ws_ground.specs.Trails.{HasGrown}
use Rattle.ws_run.proofs.deeds.add_all.Given as goal

-- The ground has grown by the ops so far.
abbrev pub invariant-loop-tuple : goal.invariant-loop-tuple
invariant-loop-tuple l = HasGrown l.fn.ground l.ground
