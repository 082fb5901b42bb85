-- The index of a set: for each relation and column, the tuples by their value in it.
use Rattle.std.specs.HashMap.{HashMap, keys}
use Rattle.std.proofs.Common.{BuildHasherDefault}
use Rattle.std.specs.Map.{lookup}
use Rattle.std.specs.Prelude.{◌≡◌, ℕ, Bool, not, ◌&&◌, ◌||◌, List, [], map, unwrap_or, slice_get, Option, Some, None}
use Rattle.def_chase.specs.Values.{Datum, Fact, same_datum, same_fact}
use Rattle.def_chase.specs.Repository.{has}
use Rattle.def_chase.specs.Cursors.{is_of, has_at}
use Rattle.base_types.specs.Meanings.{datum_of}
use Rattle.base_types.specs.declared.values.Value.{Value}
use Rattle.set_facts.specs.declared.mixing.Mixer.{Mixer}
use Rattle.std.specs.declared.vec.Vec.{Vec}
use Rattle.std.specs.declared.alloc.Global.{Global}

-- The tuples that one column keeps at each value.
abbrev pub Kept : Type 0
Kept = HashMap Value (List Fact) (BuildHasherDefault Mixer)

-- The tuples that one column keeps at a value.
abbrev pub group_in : Kept → Datum → List Fact
group_in m d = unwrap_or (lookup (λ k. same_datum d (datum_of k)) m.entries) []

-- The tuples that column c keeps at value d; none after the last column.
abbrev pub group_at : List Kept → ℕ → Datum → List Fact
group_at ms c d = at (slice_get ms c)
  where
    at : Option Kept → List Fact
    at None = []
    at (Some m) = group_in m d

-- The values at which column c keeps tuples; none past the last column.
abbrev pub values_at : List Kept → ℕ → List Datum
values_at ms c = at (slice_get ms c)
  where
    at : Option Kept → List Datum
    at None = []
    at (Some m) = map datum_of (keys m)

-- The columns ns keep the same tuples as ms.
abbrev pub AreSame : List Kept → List Kept → Type 0
AreSame ms ns = (c : ℕ) (d : Datum) → group_at ns c d ≡ group_at ms c d

-- At most tuple t is added to the columns, and only at its values.
abbrev pub AddsAtMost : Fact → List Kept → List Kept → Type 0
AddsAtMost t ms ns = (c : ℕ) (d : Datum) (u : Fact) → has (group_at ns c d) u ≡ (has (group_at ms c d) u || ((has_at c d t && same_fact u t) && has (group_at ns c d) u))

-- Only tuple t is added to one column, exactly at value v.
abbrev pub Adds : Datum → Fact → Kept → Kept → Type 0
Adds v t m n = (d : Datum) (u : Fact) → has (group_in n d) u ≡ (has (group_in m d) u || (same_datum d v && same_fact u t))

-- Only tuple t is added to the columns, exactly at its values.
abbrev pub AddsAll : Fact → List Kept → List Kept → Type 0
AddsAll t ms ns = (c : ℕ) (d : Datum) (u : Fact) → has (group_at ns c d) u ≡ (has (group_at ms c d) u || (has_at c d t && same_fact u t))

-- Only tuple t is gone from one column, exactly at value v.
abbrev pub Drops : Datum → Fact → Kept → Kept → Type 0
Drops v t m n = (d : Datum) (u : Fact) → has (group_in n d) u ≡ (has (group_in m d) u && not (same_datum d v && same_fact u t))

-- Only tuple t is gone from the columns, exactly at its values.
abbrev pub DropsAll : Fact → List Kept → List Kept → Type 0
DropsAll t ms ns = (c : ℕ) (d : Datum) (u : Fact) → has (group_at ns c d) u ≡ (has (group_at ms c d) u && not (has_at c d t && same_fact u t))

-- ---- all relations

-- The columns of relation r; none after the last relation.
abbrev pub columns_of : List (Vec Kept Global) → ℕ → List Kept
columns_of rs r = of (slice_get rs r)
  where
    of : Option (Vec Kept Global) → List Kept
    of None = []
    of (Some v) = v.items

-- The tuples that relation r keeps at value d of column c.
abbrev pub kept_at : List (Vec Kept Global) → ℕ → ℕ → Datum → List Fact
kept_at rs r c d = group_at (columns_of rs r) c d

-- The values at which relation r keeps tuples in column c.
abbrev pub values_kept : List (Vec Kept Global) → ℕ → ℕ → List Datum
values_kept rs r c = values_at (columns_of rs r) c

-- The tuple is of relation r and has d in column c.
abbrev pub is_in : ℕ → ℕ → Datum → Fact → Bool
is_in r c d u = is_of r u && has_at c d u

-- Each relation keeps at a value of a column exactly the tuples of the set that have it there.
abbrev pub IsIndex : List Fact → List (Vec Kept Global) → Type 0
IsIndex D rs = (r c : ℕ) (d : Datum) (u : Fact) → has (kept_at rs r c d) u ≡ (has D u && is_in r c d u)

-- Each relation keeps at a value of a column exactly the tuples of the set that have it there, except that columns may also keep
-- tuple t at its values.
abbrev pub IsIndexBut : List Fact → Fact → List (Vec Kept Global) → Type 0
IsIndexBut D t rs = (r c : ℕ) (d : Datum) (u : Fact) → has (kept_at rs r c d) u ≡ ((has D u && is_in r c d u) || ((is_in r c d t && same_fact u t) && has (kept_at rs r c d) u))

-- At most tuple t is added to the columns of its relation, and only at its values.
abbrev pub AddsAtMostOne : Fact → List (Vec Kept Global) → List (Vec Kept Global) → Type 0
AddsAtMostOne t rs ss = (r c : ℕ) (d : Datum) (u : Fact) → has (kept_at ss r c d) u ≡ (has (kept_at rs r c d) u || ((is_in r c d t && same_fact u t) && has (kept_at ss r c d) u))

-- Only tuple t is added to the columns of its relation, exactly at its values.
abbrev pub AddsOne : Fact → List (Vec Kept Global) → List (Vec Kept Global) → Type 0
AddsOne t rs ss = (r c : ℕ) (d : Datum) (u : Fact) → has (kept_at ss r c d) u ≡ (has (kept_at rs r c d) u || (is_in r c d t && same_fact u t))

-- Only tuple t is gone from the columns of its relation, exactly at its values.
abbrev pub DropsOne : Fact → List (Vec Kept Global) → List (Vec Kept Global) → Type 0
DropsOne t rs ss = (r c : ℕ) (d : Datum) (u : Fact) → has (kept_at ss r c d) u ≡ (has (kept_at rs r c d) u && not (is_in r c d t && same_fact u t))
