-- Places are given once: the table of an update only grows, and no place in it is for two causes.
use Rattle.std.specs.Prelude.{◌≡◌, ℕ, ◌<◌, List, [], ◌∷◌, ◌++◌}
use Rattle.def_chase.specs.Updates.{Operation}
use Rattle.def_chase.specs.Violations.{Scope}
use Rattle.def_workspace.specs.Lines.{Update, Given, Declared}
use Rattle.def_workspace.specs.Places.{Places}
use Rattle.def_workspace.specs.Worlds.{World, places_of, run_update}

-- Each place of the table is above m, and each one is above those before it.
abbrev pub AreRising : ℕ → Places → Type 0
AreRising m [] = Unit {0}
AreRising m (p ∷ ps) = (m < p.number) × AreRising p.number ps

-- The later table is the earlier one with more places at its end.
pub record Grows (ps qs : Places) : Type 0 where
  pub more : Places
  pub all : qs ≡ ps ++ more

-- However a run ends, it only adds places to the end of the table, and if the places rose before, they rise after it.
pub record KeepsPlaces (ps qs : Places) : Type 0 where
  pub grows : Grows ps qs
  pub rise : AreRising 0 ps → AreRising 0 qs

abbrev pub RunsKeepPlaces : Type 0
RunsKeepPlaces =
    (scope : Operation → Scope) (ds : List Declared) (w : World) (ps : Places) (u : Update) (gs : List Given)
    → KeepsPlaces ps (places_of (run_update scope ds w ps u gs))
