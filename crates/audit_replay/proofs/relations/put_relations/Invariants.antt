use Rattle.std.proofs.Common.{◌≡◌, ℕ, Bool, ◌||◌, map, drop}
use Rattle.std.specs.List.{list_any}
use Rattle.base_types.specs.Meanings.{change_of}
use Rattle.audit_replay.specs.Relations.{any_of}
use Rattle.audit_replay.proofs.relations.put_relations.Given as goal

abbrev pub invariant-loop-write : goal.invariant-loop-write
invariant-loop-write l =
    (p : ℕ → Bool) → (list_any p l.relations.items || any_of p (map change_of (drop l.write-index l.writes))) ≡ (list_any p l.fn.relations.items || any_of p (map change_of l.writes))
