use Rattle.std.proofs.Common.{◌≡◌, map, length}
use Rattle.std.specs.Prelude.{reverse}
use Rattle.base_types.specs.Meanings.{change_of}
use Rattle.def_chase.specs.Repository.{apply}
use Rattle.audit_replay.proofs.levels.take_all_back.Given as goal

abbrev pub invariant-loop-write : goal.invariant-loop-write
invariant-loop-write l = apply l.facts (reverse (map change_of l.left.items)) ≡ apply l.fn.facts (reverse (map change_of l.fn.back.items))

abbrev pub decreases-loop-write : goal.decreases-loop-write
decreases-loop-write l = length l.left.items
