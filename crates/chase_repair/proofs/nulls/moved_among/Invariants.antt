use Rattle.std.proofs.Common.{◌≡◌, map, take, filter}
use Rattle.base_types.specs.Meanings.{null_of}
use Rattle.base_types.specs.Maps.{images_of, moved_by}
use Rattle.chase_repair.specs.Nulls.{moves}
use Rattle.chase_repair.proofs.nulls.moved_among.Given as goal

-- The list has those of the nulls so far that are moved.
abbrev pub invariant-loop-null : goal.invariant-loop-null
invariant-loop-null l = map null_of l.moved.items ≡ filter (moves (moved_by (images_of l.sub))) (map null_of (take l.null-index l.nulls))
