-- Shelves by spot: for each spot a list of cells with their marks.
use Rattle.std.specs.Prelude.{◌≡◌, ℕ, Bool, true, false, not, cond, ◌==◌, ◌%◌, ◌/◌, ◌&&◌, refl, List, [], Option, Some, None}
use Rattle.set_versions.specs.declared.cells.Cell.{Cell}
use Rattle.set_versions.specs.declared.marks.Marks.{Marks}
use Rattle.set_versions.specs.declared.spreads.Room.{Room}
use Rattle.set_versions.specs.declared.spreads.Shelf.{Shelf}
use Rattle.set_versions.specs.declared.spreads.Shelves.{Shelves}

-- The number is even.
abbrev pub is_even : ℕ → Bool
is_even j = j % 2 == 0

-- Both hold, or neither does.
abbrev pub alike : Bool → Bool → Bool
alike true b = b
alike false b = not b

-- The shelves of even spots and of odd spots, each by the half of the spot, joined into one.
abbrev pub joined : (ℕ → List (Cell × Marks)) → (ℕ → List (Cell × Marks)) → ℕ → List (Cell × Marks)
joined even odd j = cond (is_even j) (even (j / 2)) (odd (j / 2))

-- Two spots are both even or both odd, and their halves are the same.
abbrev pub same_halves : (ℕ → ℕ → Bool) → ℕ → ℕ → Bool
same_halves same i j = alike (is_even i) (is_even j) && same (i / 2) (j / 2)

-- The cells on the shelf; none if there is no shelf.
abbrev pub cells_on : Option Shelf → List (Cell × Marks)
cells_on None = []
cells_on (Some shelf) = shelf.cells

-- The shelves of a room in four parts; without a room they are all empty.
abbrev pub shelves_in : {T : Type 0} → (T → ℕ → List (Cell × Marks)) → Option (Room T) → ℕ → List (Cell × Marks)
shelves_in shelves None j = []
shelves_in shelves (Some room) j = joined (joined (shelves room.parts.even.even) (shelves room.parts.even.odd)) (joined (shelves room.parts.odd.even) (shelves room.parts.odd.odd)) j

pub halves_same : (same : ℕ → ℕ → Bool) → ((j : ℕ) → same j j ≡ true) → (j : ℕ) → same_halves same j j ≡ true
halves_same same own j = by (is_even j) (own (j / 2))
  where
    by : (b : Bool) → same (j / 2) (j / 2) ≡ true → (alike b b && same (j / 2) (j / 2)) ≡ true
    by true h = h
    by false h = h

-- Two spots are in the same quarter, and the quarters of their numbers are the same.
abbrev pub same_quarters : (ℕ → ℕ → Bool) → ℕ → ℕ → Bool
same_quarters same = same_halves (same_halves same)

pub quarters_same : (same : ℕ → ℕ → Bool) → ((j : ℕ) → same j j ≡ true) → (j : ℕ) → same_quarters same j j ≡ true
quarters_same same own = halves_same (same_halves same) (halves_same same own)

-- The cells on each of sixteen shelves.
abbrev pub on_shelves : Shelves → ℕ → List (Cell × Marks)
on_shelves s = shelves_in (shelves_in (λ shelf _. shelf.cells)) s.parts

-- 16 times 16 shelves.
abbrev pub Spots : Type 0
Spots = Option (Room (Option (Room Shelves)))

-- The cells on the shelf of each spot.
abbrev pub on_spots : Spots → ℕ → List (Cell × Marks)
on_spots = shelves_in (shelves_in on_shelves)

-- Two spots share one shelf of sixteen.
abbrev pub same_shelves : ℕ → ℕ → Bool
same_shelves = same_quarters (same_quarters (λ _ _. true))

pub shelves_same : (j : ℕ) → same_shelves j j ≡ true
shelves_same = quarters_same (same_quarters (λ _ _. true)) (quarters_same (λ _ _. true) (λ _. refl))

-- Two spots share one shelf.
abbrev pub same_spots : ℕ → ℕ → Bool
same_spots = same_quarters (same_quarters same_shelves)

pub spots_same : (j : ℕ) → same_spots j j ≡ true
spots_same = quarters_same (same_quarters same_shelves) (quarters_same same_shelves shelves_same)
