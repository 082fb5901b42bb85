-- What contracts see of a watched view, the writes that may give a mapping a violation, and the mappings that have none.
use Rattle.std.specs.Prelude.{◌≡◌, ℕ, ◌==◌, Bool, true, false, not, ◌||◌, ◌&&◌, List, [], ◌++◌, Option, Some, None, slice_index_or, slice_set, ◌∷◌}
use Rattle.std.specs.List.{list_any, slice_get}
use Rattle.def_chase.specs.Values.{Fact}
use Rattle.def_chase.specs.Repository.{Change, Insert, Delete}
use Rattle.def_chase.specs.Mappings.{Rule, force_relation}
use Rattle.def_chase.specs.Queries.{Query, Present, Violation, Specific, Occurs, Reply, Nothing, value}
use Rattle.def_chase.specs.Violations.{Direction, Caused}
use Rattle.chase_eval.specs.Seen.{Seen}

-- The mappings, the direction in which violations are caused, the tuples below the own writes, and the own writes in turn.
pub record Watched : Type 0 where
  pub rules : List Rule
  pub heading : Direction
  pub below : List Fact
  pub own : List Change

-- The view over these mappings and in this direction.
abbrev pub seen_over : List Rule → Direction → Seen → Watched
seen_over ms d s = record { rules = ms; heading = d; below = s.below; own = s.own }

-- The view after these further own writes.
abbrev pub watched_on : Watched → List Change → Watched
watched_on w more = record { rules = w.rules; heading = w.heading; below = w.below; own = w.own ++ more }

-- The view before any own write.
abbrev pub watched_from : List Rule → Direction → List Fact → Watched
watched_from ms d E = record { rules = ms; heading = d; below = E; own = [] }

-- The value of the query in the view.
abbrev pub value_in : Watched → Query → Reply
value_in w q = value w.rules q w.below w.own (Caused w.heading)

-- The relation of the tuple that is written.
abbrev pub relation_in : Change → ℕ
relation_in (Insert t) = t.relation
relation_in (Delete t) = t.relation

-- The write may give the mapping a violation: an insertion, if the mapping has an atom of the tuple's relation on the left; a
-- deletion, if it has one on the right.
abbrev pub touches : Change → Option Rule → Bool
touches w None = false
touches (Insert t) (Some m) = list_any (λ a. a.relation == t.relation) m.left
touches (Delete t) (Some m) = list_any (λ a. a.relation == t.relation) m.right

-- The mapping of this number has lost its mark if it is touched, and keeps it otherwise.
abbrev pub LosesMark : Bool → ℕ → List Bool → List Bool → Type 0
LosesMark touched n marks marks' = slice_index_or marks' n false ≡ (slice_index_or marks n false && not touched)

-- Exactly the mappings that are touched have lost their marks.
abbrev pub LoseMarks : (Option Rule → Bool) → List Rule → List Bool → List Bool → Type 0
LoseMarks touched ms marks marks' = (n : ℕ) → LosesMark (touched (slice_get ms n)) n marks marks'

-- The write may put a mapping in force.
abbrev pub may_enact : Change → Bool
may_enact w = relation_in w == force_relation

-- The write may give the mapping a violation, or it may put a mapping in force.
abbrev pub stirs : Change → Option Rule → Bool
stirs w m = may_enact w || touches w m

-- If the mark is false, none of the own writes may put a mapping in force.
abbrev pub AreForceless : Bool → List Change → Type 0
AreForceless mark own = mark ≡ false → list_any may_enact own ≡ false

-- The query asks for the first violation of a mapping with a mark.
abbrev pub asks_settled : List Bool → Query → Bool
asks_settled marks (Present t) = false
asks_settled marks (Violation n) = slice_index_or marks n false
asks_settled marks (Specific t) = false
asks_settled marks (Occurs u k) = false

-- The marks, with the mapping marked whose first violation the query asks for, if it does.
abbrev pub with_settled : List Bool → Query → List Bool
with_settled marks (Present t) = marks
with_settled marks (Violation n) = slice_set marks n true
with_settled marks (Specific t) = marks
with_settled marks (Occurs u k) = marks

-- Exactly the mappings that one of the writes stirs have lost their marks, one write after the other.
abbrev pub LoseMarksTo : List Change → List Rule → List Bool → List Bool → Type 0
LoseMarksTo [] ms marks marks' = marks' ≡ marks
LoseMarksTo (w ∷ ws) ms marks marks' = (mid : List Bool) × LoseMarks (stirs w) ms marks mid × LoseMarksTo ws ms mid marks'

-- Each mapping with a mark has no violation that the own writes caused.
abbrev pub AreSettled : Watched → List Bool → Type 0
AreSettled w marks = (n : ℕ) → slice_index_or marks n false ≡ true → value w.rules (Violation n) w.below w.own (Caused w.heading) ≡ Nothing
