-- A shift of attempt numbers goes through the words of the chase's rows.
use Rattle.std.specs.Prelude.{◌==◌, find, filter, unwrap_or, pos, slice_get}
use Rattle.std.proofs.Common.{◌≡◌, ℕ, zero, suc, ◌+◌, ap, refl, sym, ◌∙◌, List, [], ◌∷◌, ◌++◌, map, Bool, not, ◌&&◌, cond, length, Option, Some, None}
use Rattle.std.specs.Option.{option_map}
use Rattle.std.specs.List.{list_any, list_all, flat_map, range_with_len}
use Rattle.std.specs.Ordering.{match_ordering}
use Rattle.std.specs.declared.cmp.Ordering.{Ordering}
use Rattle.std.specs.declared.cmp.Ordering.TheVariants.{Less, Equal, Greater}
use Rattle.std.specs.BTreeSet.{insert_key}
use Rattle.std.proofs.Math.ListN.{get_or-map}
use Rattle.def_chase.specs.Values.{NullName, Datum, Number, Text, Unknown, Fact, null_cmp, same_datum, same_fact, under, outer}
use Rattle.def_chase.specs.Repository.{Insert, Delete, apply}
use Rattle.def_chase.specs.Mappings.{Slot, Var, Const, Pattern, Rule, value_under, listed}
use Rattle.def_chase.specs.Matching.{Known, nothing_known, learn_all}
use Rattle.def_chase.specs.Unifier.{unifier}
use Rattle.def_chase.specs.Queries.{is_named}
use Rattle.def_chase.specs.Updates.{Choice, Expand, Unify, Drop}
use Rattle.def_chase.specs.Laws.{HasNoNull}
use Rattle.def_chase.specs.Caused.{KeepsConstants}
use Rattle.def_chase.specs.Shifts.{shift, shift_fact, shift_change}
use Rattle.def_chase.proofs.Maps.{find_map, any_map, map_join, map_map, filter_map, cond_map}
use Rattle.def_chase.proofs.Atoms.{LeavesTerms, Leaves, leaves_left}
use Rattle.def_chase.proofs.Shifted.{shift_keeps, same_datum_shifts, is_named_shifts, apply_shifts, outer_fact_shifts}
use Rattle.def_chase.proofs.ShiftedMatches.{shift_known, learn_all_shifts}
use Rattle.def_chase.proofs.ShiftedSpecific.{unifier_shifts}
use Rattle.def_steps.specs.Attempts.{Question, Positive, Negative}
use Rattle.def_steps.specs.Rewriting.{in_order, rewrite, replacing, null_of, same_null, distinct_from, nulls_in, sorted_nulls, moved_nulls, standing_for, binding_at, binding_of, fact_at}
use Rattle.def_steps.specs.Questions.{is_outer_of, fits, candidate, named}
use Rattle.def_steps.specs.Shifting.{shift_question}

-- A shift moves nulls alone.
pub shift_moves_nulls : (n : ℕ → ℕ) → KeepsConstants (shift n)
shift_moves_nulls n = (λ i. refl, λ w. refl)

module _ (n : ℕ → ℕ) where
  abbrev pub shift_null : NullName → NullName
  shift_null m = record { update = m.update; attempt = m.attempt + n m.update; place = m.place }

  -- ---- nulls

  null_of_shifts : (x : Datum) → null_of (shift n x) ≡ map shift_null (null_of x)
  null_of_shifts (Number i) = refl
  null_of_shifts (Text w) = refl
  null_of_shifts (Unknown m) = refl

  all_nulls_shift : (ds : List Datum) → flat_map null_of (map (shift n) ds) ≡ map shift_null (flat_map null_of ds)
  all_nulls_shift [] = refl
  all_nulls_shift (d ∷ ds) = (λ i. null_of_shifts d i ++ all_nulls_shift ds i) ∙ sym (map_join shift_null (null_of d) (flat_map null_of ds))

  same_null_shifts : (m l : NullName) → same_null (shift_null m) (shift_null l) ≡ same_null m l
  same_null_shifts m l = same_datum_shifts n (Unknown m) (Unknown l)

  distinct_shifts : (seen ns : List NullName) → distinct_from (map shift_null seen) (map shift_null ns) ≡ map shift_null (distinct_from seen ns)
  distinct_shifts seen [] = refl
  distinct_shifts seen (m ∷ ns) =
      (λ i. cond (any_map shift_null (same_null (shift_null m)) (same_null m) (same_null_shifts m) seen i) (distinct_shifts seen ns i) (shift_null m ∷ distinct_shifts (m ∷ seen) ns i))
      ∙ cond_map (map shift_null) (list_any (same_null m) seen) (distinct_from seen ns) (m ∷ distinct_from (m ∷ seen) ns)

  nulls_in_shifts : (ds : List Datum) → nulls_in (map (shift n) ds) ≡ map shift_null (nulls_in ds)
  nulls_in_shifts ds = ap (distinct_from []) (all_nulls_shift ds) ∙ distinct_shifts [] (flat_map null_of ds)

  insert_shifts : (ns : List NullName) (m : NullName) → insert_key null_cmp (map shift_null ns) (shift_null m) ≡ map shift_null (insert_key null_cmp ns m)
  insert_shifts [] m = refl
  insert_shifts (l ∷ ns) m = (λ i. match_ordering (shift_keeps n (Unknown m) (Unknown l) i) (shift_null m ∷ shift_null l ∷ map shift_null ns) (shift_null l ∷ map shift_null ns) (shift_null l ∷ insert_shifts ns m i)) ∙ by (null_cmp m l)
    where
      by : (o : Ordering) → match_ordering o (shift_null m ∷ shift_null l ∷ map shift_null ns) (shift_null l ∷ map shift_null ns) (shift_null l ∷ map shift_null (insert_key null_cmp ns m)) ≡ map shift_null (match_ordering o (m ∷ l ∷ ns) (l ∷ ns) (l ∷ insert_key null_cmp ns m))
      by Less = refl
      by Equal = refl
      by Greater = refl

  sorted_shifts : (ns : List NullName) → sorted_nulls (map shift_null ns) ≡ map shift_null (sorted_nulls ns)
  sorted_shifts [] = refl
  sorted_shifts (m ∷ ns) = ap (λ ks. insert_key null_cmp ks (shift_null m)) (sorted_shifts ns) ∙ insert_shifts (sorted_nulls ns) m

  pub moved_nulls_shift : (t s : Fact) → moved_nulls (shift_fact n t) (shift_fact n s) ≡ map shift_null (moved_nulls t s)
  moved_nulls_shift t s =
      ap (filter (λ m. not (same_datum (unifier (shift_fact n t) (shift_fact n s) (Unknown m)) (Unknown m)))) (ap sorted_nulls (nulls_in_shifts t.values) ∙ sorted_shifts (nulls_in t.values))
      ∙ filter_map shift_null _ (λ m. not (same_datum (unifier t s (Unknown m)) (Unknown m)))
      (λ m. ap (λ y. not (same_datum y (Unknown (shift_null m)))) (unifier_shifts n t s (Unknown m)) ∙ ap not (same_datum_shifts n (unifier t s (Unknown m)) (Unknown m))) (sorted_nulls (nulls_in t.values))

  -- ---- rewriting

  pub inserts_shift : (ts : List Fact) → map Insert (map (shift_fact n) ts) ≡ map (shift_change n) (map Insert ts)
  inserts_shift ts = map_map (shift_fact n) Insert Insert (shift_change n) (λ t. refl) ts

  pub deletes_shift : (ts : List Fact) → map Delete (map (shift_fact n) ts) ≡ map (shift_change n) (map Delete ts)
  deletes_shift ts = map_map (shift_fact n) Delete Delete (shift_change n) (λ t. refl) ts

  pub in_order_shifts : (ts : List Fact) → in_order (map (shift_fact n) ts) ≡ map (shift_fact n) (in_order ts)
  in_order_shifts ts = ap (apply []) (inserts_shift ts) ∙ apply_shifts n [] (map Insert ts)

  module _ (g h : Datum → Datum) (e : (x : Datum) → g (shift n x) ≡ shift n (h x)) where
    pub values_shift : (ds : List Datum) → map g (map (shift n) ds) ≡ map (shift n) (map h ds)
    values_shift ds = map_map (shift n) g h (shift n) e ds

    under_shifts : (t : Fact) → under g (shift_fact n t) ≡ shift_fact n (under h t)
    under_shifts t = ap (λ ds. record { relation = t.relation; values = ds }) (values_shift t.values)

    pub rewrite_shifts : (ts : List Fact) → rewrite g (map (shift_fact n) ts) ≡ map (shift_change n) (rewrite h ts)
    rewrite_shifts ts =
        (λ i. deletes_shift ts i ++ map Insert (in_order (map_map (shift_fact n) (under g) (under h) (shift_fact n) under_shifts ts i)))
        ∙ ap (λ us. map (shift_change n) (map Delete ts) ++ us) (ap (map Insert) (in_order_shifts (map (under h) ts)) ∙ inserts_shift (in_order (map (under h) ts)))
        ∙ sym (map_join (shift_change n) (map Delete ts) (map Insert (in_order (map (under h) ts))))

  pub replacing_shifts : (x y d : Datum) → replacing (shift n x) (shift n y) (shift n d) ≡ shift n (replacing x y d)
  replacing_shifts x y d = ap (λ b. cond b (shift n y) (shift n d)) (same_datum_shifts n d x) ∙ cond_map (shift n) (same_datum d x) y d

  pub standing_shifts : (m : NullName) (ts : List Fact) → standing_for m (map (shift_fact n) ts) ≡ shift n (standing_for m ts)
  standing_shifts m [] = refl
  standing_shifts m (t ∷ ts) =
      ap (λ o. unwrap_or o (Number (pos 0))) (find_map (shift n) (is_named m.update m.place) (is_named m.update m.place) (is_named_shifts n m.update m.place) t.values) ∙ by (find (is_named m.update m.place) t.values)
    where
      by : (o : Option Datum) → unwrap_or (option_map (shift n) o) (Number (pos 0)) ≡ shift n (unwrap_or o (Number (pos 0)))
      by None = refl
      by (Some d) = refl

  -- ---- bindings

  known_shifts : (k : Known) (v : ℕ) → unwrap_or (shift_known n k v) (Number (pos 0)) ≡ shift n (unwrap_or (k v) (Number (pos 0)))
  known_shifts k v = by (k v)
    where
      by : (o : Option Datum) → unwrap_or (option_map (shift n) o) (Number (pos 0)) ≡ shift n (unwrap_or o (Number (pos 0)))
      by None = refl
      by (Some d) = refl

  binding_at_shifts : (u : ℕ) (o : Option Known) → binding_at u (option_map (shift_known n) o) ≡ map (shift n) (binding_at u o)
  binding_at_shifts u None = refl
  binding_at_shifts u (Some k) = each (range_with_len 0 u)
    where
      each : (vs : List ℕ) → map (λ v. unwrap_or (shift_known n k v) (Number (pos 0))) vs ≡ map (shift n) (map (λ v. unwrap_or (k v) (Number (pos 0))) vs)
      each [] = refl
      each (v ∷ vs) = λ i. known_shifts k v i ∷ each vs i

  pub binding_of_shifts : (m : Rule) → HasNoNull m → (image : List Fact) → binding_of m (map (shift_fact n) image) ≡ map (shift n) (binding_of m image)
  binding_of_shifts m h image = ap (binding_at m.universal) (learn_all_shifts n m.left (leaves_left (shift n) (shift_moves_nulls n) m h) image nothing_known) ∙ binding_at_shifts m.universal (learn_all m.left image nothing_known)

  terms_shift : (ds : List Datum) (ps : List Slot) → LeavesTerms (shift n) ps → map (value_under (listed (map (shift n) ds))) ps ≡ map (shift n) (map (value_under (listed ds)) ps)
  terms_shift ds [] l = refl
  terms_shift ds (Var v ∷ ps) l = λ i. get_or-map (shift n) ds v (Number (pos 0)) i ∷ terms_shift ds ps l i
  terms_shift ds (Const d ∷ ps) l = λ i. sym l.0 i ∷ terms_shift ds ps l.1 i

  pub fact_at_shifts : (ds : List Datum) (as' : List Pattern) (i : ℕ) → Leaves (shift n) as' → fact_at (map (shift n) ds) (slice_get as' i) ≡ shift_fact n (fact_at ds (slice_get as' i))
  fact_at_shifts ds [] i l = refl
  fact_at_shifts ds (a ∷ as') zero l = ap (λ vs. record { relation = a.relation; values = vs }) (terms_shift ds a.terms l.0)
  fact_at_shifts ds (a ∷ as') (suc i) l = fact_at_shifts ds as' i l.1

  -- ---- answers

  pub is_outer_of_shifts : (ts : List Fact) (o : Fact) → is_outer_of (map (shift_fact n) ts) o ≡ is_outer_of ts o
  is_outer_of_shifts ts o = any_map (shift_fact n) (λ t. same_fact (outer t) o) (λ t. same_fact (outer t) o) (λ t. ap (λ (s : Fact). same_fact s o) (outer_fact_shifts n t)) ts

  pub candidate_shifts : (t : Fact) (cs : List Fact) (o : Fact) → candidate (shift_fact n t) (map (shift_fact n) cs) o ≡ shift_fact n (candidate t cs o)
  candidate_shifts t cs o =
      ap (λ x. unwrap_or x (shift_fact n t)) (find_map (shift_fact n) (λ s. same_fact (outer s) o) (λ s. same_fact (outer s) o) (λ s. ap (λ (u : Fact). same_fact u o) (outer_fact_shifts n s)) cs) ∙ by (find (λ s. same_fact (outer s) o) cs)
    where
      by : (x : Option Fact) → unwrap_or (option_map (shift_fact n) x) (shift_fact n t) ≡ shift_fact n (unwrap_or x t)
      by None = refl
      by (Some s) = refl

  pub named_shifts : (ts os : List Fact) → named (map (shift_fact n) ts) os ≡ map (shift_fact n) (named ts os)
  named_shifts ts os = filter_map (shift_fact n) (λ t. list_any (same_fact (outer t)) os) (λ t. list_any (same_fact (outer t)) os) (λ t. ap (λ (s : Fact). list_any (same_fact s) os) (outer_fact_shifts n t)) ts

  all_alike : {A : Type 0} (p q : A → Bool) → ((x : A) → p x ≡ q x) → (xs : List A) → list_all p xs ≡ list_all q xs
  all_alike p q h [] = refl
  all_alike p q h (x ∷ xs) = λ i. h x i && all_alike p q h xs i

  pub fits_shifts : (q : Question) (c : Choice) → fits (shift_question n q) c ≡ fits q c
  fits_shifts (Positive r t cs) Expand = refl
  fits_shifts (Positive r t cs) (Unify o) = is_outer_of_shifts cs o
  fits_shifts (Positive r t cs) (Drop os) = refl
  fits_shifts (Negative m ts) Expand = refl
  fits_shifts (Negative m ts) (Unify o) = refl
  fits_shifts (Negative m ts) (Drop os) = ap (λ b. not (length os == 0) && b) (all_alike (is_outer_of (map (shift_fact n) ts)) (is_outer_of ts) (is_outer_of_shifts ts) os)
