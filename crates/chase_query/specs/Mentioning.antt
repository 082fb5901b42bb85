-- The reads that mention a relation.
use Rattle.std.specs.Prelude.{ℕ, Bool, List}
use Rattle.def_chase.specs.Mappings.{Rule}
use Rattle.def_chase.specs.Mentions.{mentions}
use Rattle.chase_query.specs.Meanings.{Read}

-- The read mentions relation k.
abbrev pub mentioned : List Rule → ℕ → Read → Bool
mentioned ms k r = mentions ms r.query k
