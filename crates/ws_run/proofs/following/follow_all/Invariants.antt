use Rattle.std.proofs.Common.{◌≡◌, map, take}
use Rattle.base_types.specs.Meanings.{datum_of}
use Rattle.ws_run.specs.Moves.{moved_over, ways_of}
use Rattle.ws_run.proofs.following.follow_all.Given as goal

-- What the values so far have become.
abbrev pub invariant-loop-value : goal.invariant-loop-value
invariant-loop-value l = map datum_of l.now.items ≡ map (moved_over (ways_of l.steps)) (map datum_of (take l.value-index l.values))
