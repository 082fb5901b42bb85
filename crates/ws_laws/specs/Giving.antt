-- Over a whole log a name is given once.
use Rattle.std.specs.Prelude.{◌≡◌, ℕ, List, Some, slice_get}
use Rattle.def_chase.specs.Violations.{Scope}
use Rattle.def_chase.specs.Updates.{Operation}
use Rattle.def_workspace.specs.Lines.{Line}
use Rattle.def_workspace.specs.Places.{Place, Places}
use Rattle.def_workspace.specs.States.{State, table_of, taken_all}
use Rattle.def_workspace.specs.NameLaws.{AreRising, KeepsPlaces}

-- The table of update n.
abbrev pub table_at : State → ℕ → Places
table_at S n = table_of S.live.tables n

-- A log, with all its undos, only adds places to the end of each table, and places that rose before it rise after it.
abbrev pub LogsKeepPlaces : Type 0
LogsKeepPlaces = (scope : Operation → Scope) (S : State) (xs : List Line) (n : ℕ) → KeepsPlaces (table_at S n) (table_at (taken_all scope S xs) n)

-- Whatever a log says, a place that an update gave to a cause is never given to another cause.
abbrev pub NamesAreGivenOnce : Type 0
NamesAreGivenOnce =
    (scope : Operation → Scope) (S : State) (xs : List Line) (n i j : ℕ) (p q : Place) → AreRising 0 (table_at S n)
    → slice_get (table_at S n) i ≡ Some p → slice_get (table_at (taken_all scope S xs) n) j ≡ Some q → p.number ≡ q.number → p.cause ≡ q.cause
