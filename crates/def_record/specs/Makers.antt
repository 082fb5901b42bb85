-- Histories: lists of entries, each with the seat that made it, and how one history goes on from another.
use Rattle.std.specs.Prelude.{◌≡◌, ◌≢◌, ◌==◌, ℕ, ◌+◌, ◌≤◌, ◌⊎◌, List, [], ◌∷◌, ◌++◌, Option, Some, None, if◌then◌else◌}
use Rattle.def_record.specs.declared.made.Made.{Made}

-- n if seat j is the maker, otherwise 0
abbrev pub weight_for : ℕ → Option ℕ → ℕ → ℕ
weight_for j None n = 0
weight_for j (Some i) n = if i == j then n else 0

module _ {E : Type 0} where
  -- none of the entries was made by the seat j
  abbrev pub Unmade : ℕ → List (Made E) → Type 0
  Unmade j [] = Unit {0}
  Unmade j (e ∷ es) = (e.maker ≢ Some j) × Unmade j es

  -- each of the entries was made by the seat j
  abbrev pub MadeBy : ℕ → List (Made E) → Type 0
  MadeBy j [] = Unit {0}
  MadeBy j (e ∷ es) = (e.maker ≡ Some j) × MadeBy j es

  -- the history ys goes on from xs by entries that the seat j did not make
  abbrev pub Follows : ℕ → List (Made E) → List (Made E) → Type 0
  Follows j xs ys = (rest : List (Made E)) × (xs ++ rest ≡ ys) × Unmade j rest

  -- the history ys goes on from xs by entries that the seat j made
  abbrev pub Extends : ℕ → List (Made E) → List (Made E) → Type 0
  Extends j xs ys = (rest : List (Made E)) × (xs ++ rest ≡ ys) × MadeBy j rest

  -- the total weight of the entries that seat j made
  abbrev pub sum_made_by : (E → ℕ) → ℕ → List (Made E) → ℕ
  sum_made_by weight j [] = 0
  sum_made_by weight j (e ∷ es) = weight_for j e.maker (weight e.entry) + sum_made_by weight j es

  -- The list ys begins with xs, and goes on with entries that neither seat j nor a seat from number n on made. The second part is
  -- needed for seats that are still to be split off, whose numbers begin at n.
  abbrev pub FollowsAmong : ℕ → ℕ → List (Made E) → List (Made E) → Type 0
  FollowsAmong n j xs ys = (rest : List (Made E)) × (xs ++ rest ≡ ys) × ((k : ℕ) → (k ≡ j) ⊎ (n ≤ k) → Unmade k rest)
