use Rattle.std.proofs.Common.{◌≡◌, map, drop}
use Rattle.base_types.specs.Meanings.{change_of}
use Rattle.def_chase.specs.Values.{Fact}
use Rattle.set_versions.specs.Standing.{AreKept, known_at}
use Rattle.set_versions.specs.Touches.{retracted_at}
use Rattle.set_versions.proofs.versions.without_writes.Given as goal

-- The writes that are left make what all writes make.
abbrev pub invariant-loop-write : goal.invariant-loop-write
invariant-loop-write l =
    AreKept l.versions
    × ((t : Fact) → retracted_at l.number (map change_of (drop l.write-index l.writes)) t (known_at l.versions t) ≡ retracted_at l.number (map change_of l.writes) t (known_at l.initial.versions t))
