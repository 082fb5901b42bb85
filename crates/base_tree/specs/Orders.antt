-- Entries in the order of their keys, and searches for a key among them.
use Rattle.std.specs.Prelude.{Bool, not, ◌&&◌, List, filter, find, Option}
use Rattle.std.specs.Option.{option_map}
use Rattle.std.specs.declared.cmp.Ordering.{Ordering}
use Rattle.std.specs.Ordering.{is_eq}
use Rattle.std.specs.List.Sorted.{IsStrictlySortedBy}
use Rattle.std.specs.Map.{keys_of}

-- The entry's key passes the test.
abbrev pub is_reached : {K V : Type 0} → (K → Bool) → K × V → Bool
is_reached p e = p e.0

-- The entry's key lies in the zone, and the entry passes.
abbrev pub is_sought : {K V : Type 0} → (K → Ordering) → (K × V → Bool) → K × V → Bool
is_sought place passes e = is_eq (place e.0) && passes e

-- The entries whose keys pass the test.
abbrev pub reached : {K V : Type 0} → (K → Bool) → List (K × V) → List (K × V)
reached p es = filter (is_reached p) es

-- The first entry whose key passes the test.
abbrev pub first_reached : {K V : Type 0} → (K → Bool) → List (K × V) → Option (K × V)
first_reached p es = find (is_reached p) es

-- The first entry in the zone that passes.
abbrev pub first_sought : {K V : Type 0} → (K → Ordering) → (K × V → Bool) → List (K × V) → Option (K × V)
first_sought place passes es = find (is_sought place passes) es

module _ {K V : Type 0} (R : K → K → Ordering) where
  -- Each key comes before all that follow it.
  abbrev pub IsOrdered : List (K × V) → Type 0
  IsOrdered es = IsStrictlySortedBy R (keys_of es)

  -- The entry is at the key.
  abbrev pub is_at : K → K × V → Bool
  is_at k e = is_eq (R k e.0)

  -- The entries without the one at the key.
  abbrev pub without : K → List (K × V) → List (K × V)
  without k es = filter (λ e. not (is_at k e)) es

  -- The entry at the key.
  abbrev pub entry_at : K → List (K × V) → Option (K × V)
  entry_at k es = find (is_at k) es

  -- The value at the key.
  abbrev pub value_at : K → List (K × V) → Option V
  value_at k es = option_map (λ e. e.1) (entry_at k es)
