use Rattle.std.proofs.Common.{◌≡◌, ◌++◌, map, drop}
use Rattle.base_types.specs.Meanings.{change_of}
use Rattle.chase_update.proofs.shared.catch_up.Given as goal

-- Those that the list has and those to come are all.
abbrev pub invariant-loop-write : goal.invariant-loop-write
invariant-loop-write l = map change_of l.first.items ++ map change_of (drop l.write-index l.rest) ≡ map change_of l.all
