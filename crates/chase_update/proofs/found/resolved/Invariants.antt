use Rattle.std.proofs.Common.{◌≡◌, map, take}
use Rattle.base_types.specs.Meanings.{datum_of}
use Rattle.chase_update.specs.Found.{settled}
use Rattle.chase_update.specs.RowMeanings.{resolved_of}
use Rattle.chase_update.proofs.found.resolved.Given as goal

-- The values so far are what those that were gone over stand for.
abbrev pub invariant-loop-value : goal.invariant-loop-value
invariant-loop-value l = map datum_of l.values.items ≡ map (settled (map resolved_of l.found)) (map datum_of (take l.value-index l.value-items))
