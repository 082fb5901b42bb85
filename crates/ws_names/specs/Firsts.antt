-- Maps from nulls to the first places at which they stand in a list.
use Rattle.std.specs.Prelude.{◌≡◌, ℕ, suc, ◌==◌, Bool, false, if◌then◌else◌, List, [], ◌∷◌, Option, Some, None}
use Rattle.std.specs.Option.{option_map}
use Rattle.std.specs.Ordering.{is_eq, on}
use Rattle.std.specs.BTreeMap.{BTreeMap, get}
use Rattle.def_chase.specs.Values.{null_cmp}
use Rattle.base_types.specs.Meanings.{null_of}
use Rattle.base_types.specs.declared.nulls.Null.{Null}

-- The first place of an item that passes the test, counted from 0.
abbrev pub first_place : {A : Type 0} → (A → Bool) → List A → Option ℕ
first_place p [] = None
first_place p (x ∷ xs) = if p x then Some 0 else option_map suc (first_place p xs)

-- The first place, or else the other one.
abbrev pub or_place : Option ℕ → Option ℕ → Option ℕ
or_place (Some i) o = Some i
or_place None o = o

-- The place is i.
abbrev pub is_place : ℕ → Option ℕ → Bool
is_place i None = false
is_place i (Some j) = j == i

-- The place, unless it is i.
abbrev pub without_place : ℕ → Option ℕ → Option ℕ
without_place i o = if is_place i o then None else o

-- The two nulls are the same.
abbrev pub is_same : Null → Null → Bool
is_same m n = is_eq (null_cmp (null_of m) (null_of n))

-- The place that the map has for a null.
abbrev pub place_in : BTreeMap Null ℕ → Null → Option ℕ
place_in m q = get (on null_of null_cmp) m q

-- The null k got the place i, unless it had one.
abbrev pub NotesFirst : Null → ℕ → BTreeMap Null ℕ → BTreeMap Null ℕ → Type 0
NotesFirst k i m n = (q : Null) → place_in n q ≡ or_place (place_in m q) (if is_same k q then Some i else None)

-- The null k lost its place, if that was i.
abbrev pub ForgetsFirst : Null → ℕ → BTreeMap Null ℕ → BTreeMap Null ℕ → Type 0
ForgetsFirst k i m n = (q : Null) → place_in n q ≡ (if is_same k q then without_place i (place_in m q) else place_in m q)

-- Each null has the place that it had.
abbrev pub AreSameFirsts : BTreeMap Null ℕ → BTreeMap Null ℕ → Type 0
AreSameFirsts m n = (q : Null) → place_in n q ≡ place_in m q

-- The map has for each null the first place of an item with this key.
abbrev pub IsIndexOf : {A : Type 0} → (A → Null) → List A → BTreeMap Null ℕ → Type 0
IsIndexOf key xs m = (q : Null) → place_in m q ≡ first_place (λ x. is_same (key x) q) xs
