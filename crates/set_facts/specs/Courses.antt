-- Courses through some tuples of a set: which tuple comes after which, and which are still ahead.
use Rattle.std.specs.Prelude.{ℕ, Bool, ◌&&◌, List, [], ◌∷◌, filter, Option, Some, None}
use Rattle.def_chase.specs.Values.{Fact}
use Rattle.def_chase.specs.Cursors.{is_of, is_past, is_beyond, is_scanned}
use Rattle.base_types.specs.Candidates.{is_holding}
use Rattle.base_types.specs.Meanings.{datum_of}
use Rattle.set_facts.specs.declared.course.Course.{Course}
use Rattle.set_facts.specs.declared.course.Course.TheVariants.{All, Relation, Column, Holding}

-- The tuple is of the relation, beyond the given one.
abbrev pub is_ahead : ℕ → Option Fact → Fact → Bool
is_ahead r past u = is_of r u && is_beyond past u

-- The tuple u comes after t on the course: among all tuples, in the same relation, among those of a relation with a value in a
-- column, or among those that hold a null.
abbrev pub comes_after : Course → Fact → Fact → Bool
comes_after All t u = is_beyond (Some t) u
comes_after Relation t u = is_past t u
comes_after (Column r c v) t u = is_scanned r c (datum_of v.now) (Some t) u
comes_after (Holding name) t u = is_holding name.update name.place (Some t) u

-- The tuples that are ahead of a cursor at this tuple: the tuple itself, and the tuples of D that come after it by q.
abbrev pub ahead : (Fact → Fact → Bool) → List Fact → Option Fact → List Fact
ahead q D None = []
ahead q D (Some t) = t ∷ filter (q t) D
