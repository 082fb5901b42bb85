-- The nulls that a step drew, with their names.
use Rattle.std.specs.Prelude.{◌≡◌, ℕ, [], ◌∷◌, ◌++◌, Option, Some, None}
use Rattle.std.specs.List.{slice_get}
use Rattle.chase_repair.specs.Bound.{Bound}
use Rattle.def_chase.specs.Values.{NullName}
use Rattle.def_workspace.specs.Places.{Cause, Giving, giving}
use Rattle.def_workspace.specs.Runs.{Setting, Thread, drawn_by}

-- The n nulls of op `seq` after the first k get their names, by the repair in hand, if there is one.
abbrev pub drawn_for : Setting → ℕ → ℕ → ℕ → Option Bound → Thread → Thread
drawn_for s seq n k None t = t
drawn_for s seq n k (Some b) t = drawn_by s.number seq n k b.values (slice_get s.active b.mapping) t

-- The null got the name of its place in the update of this number, and the place is given.
abbrev pub with_name : ℕ → NullName → Giving → Thread → Thread
with_name number n g t =
    record {
      names = t.names ++ (n, record { update = number; attempt = 0; place = g.number }) ∷ [];
      places = g.places;
      given = g.number ∷ t.given;
      answers = t.answers;
      taken = t.taken;
      moves = t.moves;
    }

abbrev pub HasDrawnOne : ℕ → NullName → Cause → Thread → Thread → Type 0
HasDrawnOne number n c t u = u ≡ with_name number n (giving t.places t.given c) t
