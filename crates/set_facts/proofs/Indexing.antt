-- The index keeps up with the set.
use Rattle.std.proofs.Common.{◌≡◌, ℕ, ap, refl, sym, ◌∙◌, List, [], ◌∷◌, Bool, true, false, ◌||◌, ◌&&◌, Option, Some, map}
use Rattle.std.specs.declared.vec.Vec.{Vec}
use Rattle.std.specs.declared.alloc.Global.{Global}
use Rattle.std.specs.Prelude.{filter, find, slice_get}
use Rattle.std.proofs.lemmas.Bool.{eq-eqb}
use Rattle.def_chase.specs.Values.{Datum, Fact, same_datum}
use Rattle.def_chase.specs.Repository.{Insert, Delete, IsRepository, change, has}
use Rattle.def_chase.specs.Cursors.{is_of, is_beyond, has_at, is_datum, is_scanned, scan_of}
use Rattle.def_chase.proofs.Bools.{and-true, none_some, some_same}
use Rattle.def_chase.proofs.Learning.{same_datum_itself}
use Rattle.def_chase.proofs.Members.{has-filter}
use Rattle.def_chase.proofs.Searches.{find_same}
use Rattle.def_chase.proofs.Sets.{filter_in_order, same_repository}
use Rattle.base_types.specs.Meanings.{datum_of}
use Rattle.base_types.specs.declared.values.Value.{Value}
use Rattle.set_facts.specs.Indexes.{Kept, kept_at, is_in, IsIndex, AddsOne, DropsOne}
use Rattle.set_facts.proofs.Courses.{find_among}
use Rattle.set_facts.proofs.Keeping.{one_grows, one_shrinks, one_goes_on}

-- ---- one tuple

pub index_grows : (D : List Fact) (ms ns : List (Vec Kept Global)) (t : Fact) → IsIndex D ms → AddsOne t ms ns → IsIndex (change D (Insert t)) ns
index_grows D ms ns t x h r c d u = one_grows (is_in r c d) D t u (has (kept_at ms r c d) u) (has (kept_at ns r c d) u) (x r c d u) (h r c d u)

pub index_shrinks : (D : List Fact) (ms ns : List (Vec Kept Global)) (t : Fact) → IsIndex D ms → DropsOne t ms ns → IsIndex (change D (Delete t)) ns
index_shrinks D ms ns t x h r c d u = one_shrinks (is_in r c d) D t u (has (kept_at ms r c d) u) (has (kept_at ns r c d) u) (x r c d u) (h r c d u)

-- ---- all tuples

-- All tuples that are not left are indexed.
abbrev pub IsIndexTo : List Fact → List Fact → List (Vec Kept Global) → Type 0
IsIndexTo D left ms = (r c : ℕ) (d : Datum) (u : Fact) → (has (kept_at ms r c d) u || (has left u && is_in r c d u)) ≡ (has D u && is_in r c d u)

pub index_goes_on : (D left rest : List Fact) (ms ns : List (Vec Kept Global)) (t : Fact) → left ≡ t ∷ rest → AddsOne t ms ns → IsIndexTo D left ms → IsIndexTo D rest ns
index_goes_on D left rest ms ns t e h x r c d u =
    one_goes_on (is_in r c d) D left rest t u (has (kept_at ms r c d) u) (has (kept_at ns r c d) u) e (h r c d u) (x r c d u)

-- ---- single tuples

-- A tuple has its first value in the first column.
pub has_first : (xs : List Value) (v : Value) → Some v ≡ slice_get xs 0 → is_datum (datum_of v) (slice_get (map datum_of xs) 0) ≡ true
has_first [] v e = absurd (none_some v (sym e))
has_first (x ∷ xs) v e = ap (λ (z : Value). same_datum (datum_of v) (datum_of z)) (some_same x v (sym e)) ∙ same_datum_itself (datum_of v)

-- A value that a tuple has in a column keeps it exactly where it is in the set.
pub kept_there : (D : List Fact) (rs : List (Vec Kept Global)) (c : ℕ) (d : Datum) (t : Fact) → IsIndex D rs → has_at c d t ≡ true → has (kept_at rs t.relation c d) t ≡ has D t
kept_there D rs c d t x e = x t.relation c d t ∙ ap (λ b. has D t && (b && has_at c d t)) (eq-eqb t.relation t.relation refl) ∙ ap (λ b. has D t && b) e ∙ and-true (has D t)

-- ---- scans

-- What comes next in the group of a column's value is what a scan of the set finds.
pub scan_indexed : (D : List Fact) (ms : List (Vec Kept Global)) (r c : ℕ) (d : Datum) (past : Option Fact) (G : List Fact) (o : Option Fact) → IsRepository D → IsIndex D ms → G ≡ kept_at ms r c d → IsRepository G → o ≡ find (is_beyond past) G
    → o ≡ scan_of D r c d past
scan_indexed D ms r c d past G o s x e t h =
    h
    ∙ ap (find (is_beyond past)) (same_repository G (filter (is_in r c d) D) t (filter_in_order (is_in r c d) D s) (λ u. ap (λ (l : List Fact). has l u) e ∙ x r c d u ∙ sym (has-filter (is_in r c d) D u)))
    ∙ find_among (is_in r c d) (is_beyond past) D
    ∙ find_same (λ u. is_in r c d u && is_beyond past u) (is_scanned r c d past) (λ u. by (is_of r u) (has_at c d u) (is_beyond past u)) D
  where
    by : (a b x : Bool) → ((a && b) && x) ≡ (a && (x && b))
    by true true true = refl
    by true true false = refl
    by true false true = refl
    by true false false = refl
    by false b x = refl
