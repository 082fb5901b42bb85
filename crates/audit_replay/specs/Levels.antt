-- Levels of a set of tuples, from the uppermost one down to the lowest.
use Rattle.std.specs.Prelude.{◌≡◌, ℕ, ◌+◌, ◌≤◌, suc, List, [], ◌∷◌, map, reverse, drop, length}
use Rattle.base_types.specs.Meanings.{change_of}
use Rattle.base_types.specs.declared.updates.Write.{Write}
use Rattle.def_chase.specs.Values.{Fact}
use Rattle.def_chase.specs.Repository.{Change, apply}

-- the set, and below it the levels: each is the level above it with a list of writes made, from the last write to the first
abbrev pub descended : List Fact → List (List Change) → List (List Fact)
descended D [] = D ∷ []
descended D (ws ∷ wss) = D ∷ descended (apply D (reverse ws)) wss

-- the uppermost level
abbrev pub top : List (List Fact) → List Fact
top [] = []
top (D ∷ Ds) = D

-- one more level: the uppermost one with these writes made
abbrev pub raised : List (List Fact) → List Change → List (List Fact)
raised Ds ws = apply (top Ds) ws ∷ Ds

-- There are as many levels as before; their tuples are left open.
abbrev pub AreAsMany : List (List Fact) → List (List Fact) → Type 0
AreAsMany old new = length new ≡ length old

-- There is one level fewer; the tuples of the others are left open.
abbrev pub AreOneFewer : List (List Fact) → List (List Fact) → Type 0
AreOneFewer old new = suc (length new) ≡ length old

-- There are at least h levels above the lowest, and no more than before; their tuples are left open.
abbrev pub AreStill : ℕ → List (List Fact) → List (List Fact) → Type 0
AreStill h old new = (h + 1 ≤ length new) × (length new ≤ length old)

-- The new writes, made from the last to the first, lead from the new set to the set that the old writes led to from the old set.
abbrev pub LeadsBack : List Fact → List Write → List Fact → List Write → Type 0
LeadsBack D ws D' ws' = apply D' (reverse (map change_of ws')) ≡ apply D (reverse (map change_of ws))

-- The old levels are the lower ones of the new levels.
pub record RisesFrom (old new : List (List Fact)) : Type 0 where
  pub many : ℕ
  pub down : drop many new ≡ old
  pub long : length new ≡ many + length old

-- the levels Ds, on them D, and on it one level for each list of writes
abbrev pub laid : List (List Fact) → List Fact → List (List Change) → List (List Fact)
laid Ds D [] = D ∷ Ds
laid Ds D (ws ∷ wss) = laid (D ∷ Ds) (apply D ws) wss
