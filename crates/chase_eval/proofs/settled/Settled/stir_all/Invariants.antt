use Rattle.std.proofs.Common.{List, Bool, map, drop}
use Rattle.base_types.specs.Meanings.{change_of, rule_of}
use Rattle.chase_eval.specs.Watched.{LoseMarksTo}
use Rattle.chase_eval.proofs.settled.Settled.stir_all.Given as goal

-- What the writes that are left make of the marks, all of them make of those before.
abbrev pub invariant-loop-write : goal.invariant-loop-write
invariant-loop-write l =
    (marks : List Bool) → LoseMarksTo (map change_of (drop l.write-index l.writes)) (map rule_of l.mappings.items) l.self marks
    → LoseMarksTo (map change_of l.writes) (map rule_of l.mappings.items) l.fn.self marks
