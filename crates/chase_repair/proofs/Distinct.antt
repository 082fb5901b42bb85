-- The distinct nulls among values, value by value.
use Rattle.std.proofs.Common.{◌≡◌, ap, refl, ◌∙◌, List, [], ◌∷◌, ◌++◌, Bool, true, false, ◌||◌, cond, append-nil}
use Rattle.std.proofs.lemmas.Grind.{flat_map-append}
use Rattle.std.specs.List.{list_any, flat_map}
use Rattle.def_chase.specs.Values.{NullName, Datum, Number, Text, Unknown}
use Rattle.def_steps.specs.Rewriting.{null_of, same_null, distinct_from, nulls_in}
use Rattle.chase_repair.specs.Nulls.{with_null_of}

-- One null more is left out where it was seen before or stands among the others.
distinct_more : (seen ns : List NullName) (n : NullName)
    → distinct_from seen (ns ++ n ∷ []) ≡ cond (list_any (same_null n) seen || list_any (same_null n) (distinct_from seen ns)) (distinct_from seen ns) (distinct_from seen ns ++ n ∷ [])
distinct_more seen [] n = by (list_any (same_null n) seen)
  where
    by : (b : Bool) → cond b [] (n ∷ []) ≡ cond (b || false) [] (n ∷ [])
    by true = refl
    by false = refl
distinct_more seen (m ∷ ns) n = by (list_any (same_null m) seen) (distinct_more seen ns n) (distinct_more (m ∷ seen) ns n)
  where
    kept : (s a d : Bool) (l : List NullName) → m ∷ cond ((a || s) || d) l (l ++ n ∷ []) ≡ cond (s || (a || d)) (m ∷ l) (m ∷ l ++ n ∷ [])
    kept true true d l = refl
    kept true false d l = refl
    kept false true d l = refl
    kept false false true l = refl
    kept false false false l = refl

    by : (b : Bool)
        → distinct_from seen (ns ++ n ∷ []) ≡ cond (list_any (same_null n) seen || list_any (same_null n) (distinct_from seen ns)) (distinct_from seen ns) (distinct_from seen ns ++ n ∷ [])
        → distinct_from (m ∷ seen) (ns ++ n ∷ []) ≡ cond ((same_null n m || list_any (same_null n) seen) || list_any (same_null n) (distinct_from (m ∷ seen) ns)) (distinct_from (m ∷ seen) ns) (distinct_from (m ∷ seen) ns ++ n ∷ [])
        → cond b (distinct_from seen (ns ++ n ∷ [])) (m ∷ distinct_from (m ∷ seen) (ns ++ n ∷ []))
        ≡ cond (list_any (same_null n) seen || list_any (same_null n) (cond b (distinct_from seen ns) (m ∷ distinct_from (m ∷ seen) ns))) (cond b (distinct_from seen ns) (m ∷ distinct_from (m ∷ seen) ns)) (cond b (distinct_from seen ns) (m ∷ distinct_from (m ∷ seen) ns) ++ n ∷ [])
    by true h k = h
    by false h k = ap (λ l. m ∷ l) k ∙ kept (list_any (same_null n) seen) (same_null n m) (list_any (same_null n) (distinct_from (m ∷ seen) ns)) (distinct_from (m ∷ seen) ns)

-- One value more.
pub nulls_more : (ds : List Datum) (d : Datum) → nulls_in (ds ++ d ∷ []) ≡ with_null_of (nulls_in ds) d
nulls_more ds (Number i) = ap (distinct_from []) (flat_map-append null_of ds (Number i ∷ []) ∙ append-nil (flat_map null_of ds))
nulls_more ds (Text w) = ap (distinct_from []) (flat_map-append null_of ds (Text w ∷ []) ∙ append-nil (flat_map null_of ds))
nulls_more ds (Unknown n) = ap (distinct_from []) (flat_map-append null_of ds (Unknown n ∷ [])) ∙ distinct_more [] (flat_map null_of ds) n
