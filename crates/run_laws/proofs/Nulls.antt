-- The different nulls of tuples are all that stand there.
use Rattle.std.proofs.Common.{◌≡◌, ◌∙◌, ℕ, zero, suc, Bool, true, false, List, [], ◌∷◌, ◌++◌, Some, refl, ap, ◌||◌}
use Rattle.std.specs.Prelude.{fold, slice_get, flat_map}
use Rattle.std.specs.List.{list_any}
use Rattle.std.specs.BTreeSet.{insert_key}
use Rattle.std.specs.Ordering.{match_ordering}
use Rattle.std.specs.declared.cmp.Ordering.{Ordering}
use Rattle.std.specs.declared.cmp.Ordering.TheVariants.{Less, Equal, Greater}
use Rattle.def_chase.specs.Values.{NullName, Datum, Number, Text, Unknown, Fact, null_cmp, same_datum}
use Rattle.def_chase.proofs.Bools.{differ, none_some, some_same}
use Rattle.def_chase.proofs.Order.{null_exact}
use Rattle.def_steps.specs.Origins.{stands_in}
use Rattle.def_steps.proofs.Gathered.{same_null_exact}
use Rattle.lang_report.specs.Saved.{null_in, nulls_in, different_nulls}

-- at some place of the list
pub record Listed (xs : List NullName) (n : NullName) : Type 0 where
  pub place : ℕ
  pub there : slice_get xs place ≡ Some n

at_head : (x n : NullName) (xs : List NullName) → x ≡ n → Listed (x ∷ xs) n
at_head x n xs e = record { place = 0; there = ap Some e }

later : (x n : NullName) (xs : List NullName) → Listed xs n → Listed (x ∷ xs) n
later x n xs l = record { place = suc l.place; there = l.there }

-- ---- in order, each once

insert_has : (ks : List NullName) (n : NullName) → Listed (insert_key null_cmp ks n) n
insert_has [] n = at_head n n [] refl
insert_has (x ∷ ks) n = by (null_cmp n x) refl (insert_has ks n)
  where
    same : null_cmp n x ≡ Equal → x ≡ n
    same e = let q : n ≡ x = null_exact n x e in cc

    by : (o : Ordering) → null_cmp n x ≡ o → Listed (insert_key null_cmp ks n) n → Listed (match_ordering o (n ∷ x ∷ ks) (x ∷ ks) (x ∷ insert_key null_cmp ks n)) n
    by Less e rest = at_head n n (x ∷ ks) refl
    by Equal e rest = at_head x n ks (same e)
    by Greater e rest = later x n (insert_key null_cmp ks n) rest

insert_keeps : (ks : List NullName) (n m : NullName) (i : ℕ) → slice_get ks i ≡ Some m → Listed (insert_key null_cmp ks n) m
insert_keeps [] n m i e = absurd (none_some m e)
insert_keeps (x ∷ ks) n m i e = by (null_cmp n x) (λ j f. insert_keeps ks n m j f)
  where
    front : (j : ℕ) → slice_get (x ∷ ks) j ≡ Some m → ((k : ℕ) → slice_get ks k ≡ Some m → Listed (insert_key null_cmp ks n) m) → Listed (x ∷ insert_key null_cmp ks n) m
    front zero f rest = at_head x m (insert_key null_cmp ks n) (some_same x m f)
    front (suc j) f rest = later x m (insert_key null_cmp ks n) (rest j f)

    by : (o : Ordering) → ((k : ℕ) → slice_get ks k ≡ Some m → Listed (insert_key null_cmp ks n) m) → Listed (match_ordering o (n ∷ x ∷ ks) (x ∷ ks) (x ∷ insert_key null_cmp ks n)) m
    by Less rest = record { place = suc i; there = e }
    by Equal rest = record { place = i; there = e }
    by Greater rest = front i e rest

fold_keeps : (ns ks : List NullName) (m : NullName) → Listed ks m → Listed (fold (insert_key null_cmp) ks ns) m
fold_keeps [] ks m l = l
fold_keeps (n ∷ ns) ks m l = fold_keeps ns (insert_key null_cmp ks n) m (insert_keeps ks n m l.place l.there)

fold_has : (ns ks : List NullName) (m : NullName) (i : ℕ) → slice_get ns i ≡ Some m → Listed (fold (insert_key null_cmp) ks ns) m
fold_has [] ks m i e = absurd (none_some m e)
fold_has (n ∷ ns) ks m zero e = fold_keeps ns (insert_key null_cmp ks n) m (let l : Listed (insert_key null_cmp ks n) n = insert_has ks n in record { place = l.place; there = l.there ∙ e })
fold_has (n ∷ ns) ks m (suc i) e = fold_has ns (insert_key null_cmp ks n) m i e

-- ---- as they stand

in_front : (xs ys : List NullName) (n : NullName) (i : ℕ) → slice_get xs i ≡ Some n → Listed (xs ++ ys) n
in_front [] ys n i e = absurd (none_some n e)
in_front (x ∷ xs) ys n zero e = at_head x n (xs ++ ys) (some_same x n e)
in_front (x ∷ xs) ys n (suc i) e = later x n (xs ++ ys) (in_front xs ys n i e)

at_end : (xs ys : List NullName) (n : NullName) → Listed ys n → Listed (xs ++ ys) n
at_end [] ys n l = l
at_end (x ∷ xs) ys n l = later x n (xs ++ ys) (at_end xs ys n l)

in_values : (ds : List Datum) (n : NullName) → list_any (same_datum (Unknown n)) ds ≡ true → Listed (flat_map null_in ds) n
in_values [] n e = differ e
in_values (Number z ∷ ds) n e = in_values ds n e
in_values (Text w ∷ ds) n e = in_values ds n e
in_values (Unknown m ∷ ds) n e = by (same_datum (Unknown n) (Unknown m)) refl e (λ f. in_values ds n f)
  where
    same : same_datum (Unknown n) (Unknown m) ≡ true → m ≡ n
    same q = let s : n ≡ m = same_null_exact n m q in cc

    by : (b : Bool) → same_datum (Unknown n) (Unknown m) ≡ b → (b || list_any (same_datum (Unknown n)) ds) ≡ true → (list_any (same_datum (Unknown n)) ds ≡ true → Listed (flat_map null_in ds) n) → Listed (m ∷ flat_map null_in ds) n
    by true q f rest = at_head m n (flat_map null_in ds) (same q)
    by false q f rest = later m n (flat_map null_in ds) (rest f)

in_facts : (D : List Fact) (n : NullName) → stands_in D (Unknown n) ≡ true → Listed (flat_map nulls_in D) n
in_facts [] n e = differ e
in_facts (t ∷ D) n e = by (list_any (same_datum (Unknown n)) t.values) refl e (λ f. in_facts D n f)
  where
    here : list_any (same_datum (Unknown n)) t.values ≡ true → Listed (nulls_in t ++ flat_map nulls_in D) n
    here q = let l : Listed (flat_map null_in t.values) n = in_values t.values n q in in_front (nulls_in t) (flat_map nulls_in D) n l.place l.there

    by : (b : Bool) → list_any (same_datum (Unknown n)) t.values ≡ b → (b || stands_in D (Unknown n)) ≡ true → (stands_in D (Unknown n) ≡ true → Listed (flat_map nulls_in D) n) → Listed (nulls_in t ++ flat_map nulls_in D) n
    by true q f rest = here q
    by false q f rest = at_end (nulls_in t) (flat_map nulls_in D) n (rest f)

-- A null that stands in the tuples is one of their different nulls.
pub stands_listed : (D : List Fact) (n : NullName) → stands_in D (Unknown n) ≡ true → Listed (different_nulls D) n
stands_listed D n e = let l : Listed (flat_map nulls_in D) n = in_facts D n e in fold_has (flat_map nulls_in D) [] n l.place l.there
