use Rattle.std.proofs.Common.{◌≡◌, map, take}
use Rattle.base_types.specs.Meanings.{datum_of}
use Rattle.base_types.specs.Maps.{images_of, moved_by}
use Rattle.chase_unifier.proofs.applying.apply_row.Given as goal

-- The values so far are the images of those that were gone over.
abbrev pub invariant-loop-value : goal.invariant-loop-value
invariant-loop-value l = map datum_of l.values.items ≡ map (moved_by (images_of l.sub)) (map datum_of (take l.value-index l.row))
