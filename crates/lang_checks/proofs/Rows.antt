-- Tables of what leads to what: row by row, and through one more relation.
use Rattle.std.proofs.Common.{◌≡◌, ◌∙◌, ℕ, zero, suc, ◌+◌, ◌<◌, ◌≤◌, Bool, true, false, List, [], ◌∷◌, ◌++◌, length, map, take, drop, Some, refl, sym, ap, arith, subst, ◌⊎◌, inl, inr}
use Rattle.std.specs.Prelude.{slice_get, slice_set, ◌||◌, ◌&&◌, if◌then◌else◌}
use Rattle.std.specs.List.{list_any, range_with_len, slice_index_or}
use Rattle.std.proofs.Math.Numerals.{add-one}
use Rattle.std.proofs.lemmas.Bool.{cases_lt}
use Rattle.def_chase.specs.Mappings.{Rule}
use Rattle.std.specs.Int.RustNames.{bit_or}
use Rattle.def_language.specs.Cycles.{has_plain_cycle, leads, through}
use Rattle.lang_checks.specs.declared.relations.RelationSet.{RelationSet}
use Rattle.lang_checks.specs.Tables.{among, IsTableOf, widened}
use Rattle.lang_checks.proofs.Bits.{bit_of_both, or_false}
use Rattle.lang_checks.proofs.Found.{any_in_range, none_in_range}

from_map : {A B : Type 0} (f : A → B) (xs : List A) (r : ℕ) (y : B) → slice_get (map f xs) r ≡ Some y → (x : A) × (slice_get xs r ≡ Some x) × (y ≡ f x)
from_map f [] r y e = let none : ⊥ = cc in absurd none
from_map f (x ∷ xs) zero y e = let same : f x ≡ y = cc in (x, refl, sym same)
from_map f (x ∷ xs) (suc r) y e = from_map f xs r y e

widened_has : (middle row : RelationSet) (k s : ℕ) → among (widened middle k row) s ≡ (among row s || (among row k && among middle s))
widened_has middle row k s = by (among row k) refl where
  by : (b : Bool) → among row k ≡ b → among (if b then record { bits = bit_or row.bits middle.bits } else row) s ≡ (among row s || (b && among middle s))
  by true e = bit_of_both row.bits middle.bits s
  by false e = sym (or_false (among row s))

-- a table through relations below k, widened by k
pub one_further : (edge : ℕ → ℕ → Bool) (k : ℕ) (rows : List RelationSet) (middle : RelationSet) → k < 128 → slice_get rows k ≡ Some middle → IsTableOf (through edge k) rows → IsTableOf (through edge (suc k)) (map (widened middle k) rows)
one_further edge k rows middle small there table r s row e lt =
    let old = from_map (widened middle k) rows r row e in
    ap (λ set. among set s) old.2 ∙ (widened_has middle old.0 k s ∙ rw (table r s old.0 old.1 lt, table r k old.0 old.1 small, table k s middle there lt) refl)

index_get : {A : Type 0} (xs : List A) (d : A) (i : ℕ) → i < length xs → slice_get xs i ≡ Some (slice_index_or xs i d)
index_get [] d i lt = absurd (omega arith)
index_get (x ∷ xs) d zero lt = refl
index_get (x ∷ xs) d (suc i) lt = index_get xs d i (omega arith)

kept : {A : Type 0} (f : A → A) (xs : List A) (d : A) (i : ℕ) → i < length xs → slice_index_or (map f (take i xs) ++ drop i xs) i d ≡ slice_index_or xs i d
kept f [] d i lt = absurd (omega arith)
kept f (x ∷ xs) d zero lt = refl
kept f (x ∷ xs) d (suc i) lt = kept f xs d i (omega arith)

changed : {A : Type 0} (f : A → A) (xs : List A) (d : A) (i : ℕ) → i < length xs → slice_set (map f (take i xs) ++ drop i xs) i (f (slice_index_or xs i d)) ≡ map f (take (suc i) xs) ++ drop (suc i) xs
changed f [] d i lt = absurd (omega arith)
changed f (x ∷ xs) d zero lt = refl
changed f (x ∷ xs) d (suc i) lt = ap (λ ys. f x ∷ ys) (changed f xs d i (omega arith))

-- the row at a place is exchanged for what f makes of it
pub one_changed : {A : Type 0} (f : A → A) (xs rows : List A) (d y : A) (i : ℕ) → i < length xs → rows ≡ map f (take i xs) ++ drop i xs → y ≡ f (slice_index_or rows i d) → slice_set rows i y ≡ map f (take (i + 1) xs) ++ drop (i + 1) xs
one_changed f xs rows d y i lt is made = rw (add-one, made, is, kept f xs d i lt) (changed f xs d i lt)

-- all rows are exchanged
pub all_changed : {A : Type 0} (f : A → A) (xs : List A) (i : ℕ) → length xs ≤ i → map f (take i xs) ++ drop i xs ≡ map f xs
all_changed f [] zero le = refl
all_changed f [] (suc i) le = refl
all_changed f (x ∷ xs) zero le = absurd (omega arith)
all_changed f (x ∷ xs) (suc i) le = ap (λ ys. f x ∷ ys) (all_changed f xs i (omega arith))

-- a table through relations below k, with all rows widened by k
pub closed_further : (edge : ℕ → ℕ → Bool) (k i : ℕ) (old new : List RelationSet) (d : RelationSet) → k < 128 → k < length old → length old ≤ i → new ≡ map (widened (slice_index_or old k d) k) (take i old) ++ drop i old → IsTableOf (through edge k) old → IsTableOf (through edge (suc k)) new
closed_further edge k i old new d small there whole is table =
    subst (IsTableOf (through edge (suc k))) (sym (is ∙ all_changed (widened (slice_index_or old k d) k) old i whole)) (one_further edge k old (slice_index_or old k d) small (index_get old d k there) table)

-- a relation in its own row
pub one_round : (edge : ℕ → ℕ → Bool) (rows : List RelationSet) (d : RelationSet) (r : ℕ) → IsTableOf edge rows → length rows ≤ 128 → r < length rows → among (slice_index_or rows r d) r ≡ true → list_any (λ x. edge x x) (range_with_len 0 (length rows)) ≡ true
one_round edge rows d r table few lt has = any_in_range (λ x. edge x x) 0 (length rows) r (omega arith) (omega arith) (sym (table r r (slice_index_or rows r d) (index_get rows d r lt) (omega arith)) ∙ has)

-- no relation up to a place is in its own row
pub none_more : (rows : List RelationSet) (d : RelationSet) (place : ℕ) → ((r : ℕ) → r < place → among (slice_index_or rows r d) r ≡ false) → among (slice_index_or rows place d) place ≡ false → (r : ℕ) → r < place + 1 → among (slice_index_or rows r d) r ≡ false
none_more rows d place none one r lt = by (cases_lt r place) where
  by : (r < place) ⊎ (place ≤ r) → among (slice_index_or rows r d) r ≡ false
  by (inl below) = none r below
  by (inr above) = let same : r ≡ place = omega arith in rw same one

-- no relation in its own row
pub no_round : (edge : ℕ → ℕ → Bool) (rows : List RelationSet) (d : RelationSet) (place : ℕ) → IsTableOf edge rows → length rows ≤ 128 → length rows ≤ place → ((r : ℕ) → r < place → among (slice_index_or rows r d) r ≡ false) → list_any (λ x. edge x x) (range_with_len 0 (length rows)) ≡ false
no_round edge rows d place table few whole none = none_in_range (λ x. edge x x) 0 (length rows) (λ r low high.
    let lt : r < length rows = omega arith in
    sym (table r r (slice_index_or rows r d) (index_get rows d r lt) (omega arith)) ∙ none r (omega arith))

-- what goes round a table that is closed through all relations is a plain cycle
pub cycle_is : (ms : List Rule) (n k : ℕ) (rows : List RelationSet) (test : Bool) → length rows ≡ n → k ≡ n → IsTableOf (through (leads ms) k) rows → ((edge : ℕ → ℕ → Bool) → IsTableOf edge rows → test ≡ list_any (λ r. edge r r) (range_with_len 0 (length rows))) → test ≡ has_plain_cycle n ms
cycle_is ms n k rows test whole all table round = rw (← whole) (round (through (leads ms) (length rows)) (rw (all ∙ sym whole) at table))
