-- Places in a list of tuples in order.
use Rattle.std.specs.Prelude.{◌≡◌, ℕ, Bool, true, ◌&&◌, not, List, find, Some}
use Rattle.std.specs.Ordering.{is_le}
use Rattle.std.specs.List.{HoldsAt}
use Rattle.std.specs.List.Sorted.{IsPartitionPoint}
use Rattle.std.specs.declared.cmp.Ordering.TheVariants.{Less, Equal, Greater}
use Rattle.def_chase.specs.Cursors.{is_beyond}
use Rattle.def_chase.specs.Values.{Fact, fact_cmp}
use Rattle.base_types.specs.Meanings.{fact_of}
use Rattle.base_types.specs.declared.tuples.Tuple.{Tuple}

-- The tuple stands at the place.
abbrev pub StandsAt : List Tuple → Tuple → ℕ → Type 0
StandsAt D t i = HoldsAt (λ y. fact_cmp (fact_of y) (fact_of t) ≡ Equal) D i

-- The place parts the tuples below t from the tuples above it.
abbrev pub IsBetween : List Tuple → Tuple → ℕ → Type 0
IsBetween D t i = IsPartitionPoint (λ y. fact_cmp (fact_of y) (fact_of t) ≡ Less) (λ y. fact_cmp (fact_of y) (fact_of t) ≡ Greater) D i

-- The tuple u is not below t.
abbrev pub is_from : Fact → Fact → Bool
is_from t u = is_le (fact_cmp t u)

-- The tuple u is above s and below t.
abbrev pub is_inside : Fact → Fact → Fact → Bool
is_inside s t u = is_beyond (Some s) u && not (is_from t u)

-- A search for the first tuple gives the same in the rest as in D, if it asks for tuples that pass q.
abbrev pub HasAllThat : (Fact → Bool) → List Fact → List Fact → Type 0
HasAllThat q D rest = (p : Fact → Bool) → ((u : Fact) → p u ≡ true → q u ≡ true) → find p rest ≡ find p D
