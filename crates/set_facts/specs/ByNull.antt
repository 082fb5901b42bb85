-- The index of a set by nulls: the tuples by each null that they hold. The attempt that drew a null does not count.
use Rattle.std.specs.Prelude.{◌≡◌, ℕ, Bool, not, ◌&&◌, ◌||◌, List}
use Rattle.def_chase.specs.Queries.{holds_null}
use Rattle.def_chase.specs.Repository.{has}
use Rattle.def_chase.specs.Values.{Datum, Unknown, Fact, same_fact}
use Rattle.set_facts.specs.Indexes.{Kept, group_in}

-- The null that the first attempt of this update drew at this place.
abbrev pub outer_null : ℕ → ℕ → Datum
outer_null update place = Unknown record { update = update; attempt = 0; place = place }

-- The tuples that are kept at the nulls which this update drew at this place.
abbrev pub holders_in : Kept → ℕ → ℕ → List Fact
holders_in m update place = group_in m (outer_null update place)

-- At each null exactly the tuples of the set that hold it are kept.
abbrev pub IsNullIndex : List Fact → Kept → Type 0
IsNullIndex D m = (u k : ℕ) (s : Fact) → has (holders_in m u k) s ≡ (has D s && holds_null u k s)

-- At each null exactly the tuples of the set that hold it are kept, except that tuple t may be kept too at nulls that it holds.
abbrev pub IsNullIndexBut : List Fact → Fact → Kept → Type 0
IsNullIndexBut D t m = (u k : ℕ) (s : Fact) → has (holders_in m u k) s ≡ ((has D s && holds_null u k s) || ((holds_null u k t && same_fact s t) && has (holders_in m u k) s))

-- Only tuple t is added, exactly at the nulls that pass the test.
abbrev pub AddsHolder : (ℕ → ℕ → Bool) → Fact → Kept → Kept → Type 0
AddsHolder at t m n = (u k : ℕ) (s : Fact) → has (holders_in n u k) s ≡ (has (holders_in m u k) s || (at u k && same_fact s t))

-- At most tuple t is added, and only at nulls that it holds.
abbrev pub AddsAtMostHolder : Fact → Kept → Kept → Type 0
AddsAtMostHolder t m n = (u k : ℕ) (s : Fact) → has (holders_in n u k) s ≡ (has (holders_in m u k) s || ((holds_null u k t && same_fact s t) && has (holders_in n u k) s))

-- Only tuple t is gone, exactly from the nulls that pass the test.
abbrev pub DropsHolder : (ℕ → ℕ → Bool) → Fact → Kept → Kept → Type 0
DropsHolder at t m n = (u k : ℕ) (s : Fact) → has (holders_in n u k) s ≡ (has (holders_in m u k) s && not (at u k && same_fact s t))

-- Both keep the same tuples at each null.
abbrev pub AreSameHolders : Kept → Kept → Type 0
AreSameHolders m n = (u k : ℕ) → holders_in n u k ≡ holders_in m u k
