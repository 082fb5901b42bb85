-- The tuples of a saved base are tuples of a base.
use Rattle.std.specs.Prelude.{fold, flat_map, count_by}
use Rattle.std.proofs.Common.{◌≡◌, ℕ, ◌+◌, ◌*◌, ◌≤◌, ◌<◌, ◌^◌, refl, sym, subst, List, [], ◌∷◌, ◌++◌, map, length, length-append, Bool, true, false, cond, pos, negsuc, arith}
use Rattle.std.specs.Ordering.{is_lt, match_ordering}
use Rattle.std.specs.declared.cmp.Ordering.{Ordering}
use Rattle.std.specs.declared.cmp.Ordering.TheVariants.{Less, Equal, Greater}
use Rattle.std.specs.BTreeSet.{insert_key}
use Rattle.std.specs.List.{AllByRecursion}
use Rattle.def_chase.specs.Values.{NullName, Datum, Number, Text, Unknown, Fact, null_cmp}
use Rattle.def_chase.proofs.Maps.{length_map}
use Rattle.def_chase.proofs.Searches.{all_at}
use Rattle.def_language.specs.Sessions.{RelationSchema}
use Rattle.def_language.specs.Validity.{IsRelation, IsValue, HasColumns, IsFact}
use Rattle.lang_report.specs.Saved.{null_in, nulls_in, different_nulls, base_null, base_value, base_fact, saved_base}
use Rattle.lang_report.proofs.Ranks.{passing, passing_is}

-- ---- how many nulls there are

insert_few : (ks : List NullName) (n : NullName) → length (insert_key null_cmp ks n) ≤ length ks + 1
insert_few [] n = omega arith
insert_few (x ∷ ks) n = by (null_cmp n x) (insert_few ks n)
  where
    by : (o : Ordering) → length (insert_key null_cmp ks n) ≤ length ks + 1 → length (match_ordering o (n ∷ x ∷ ks) (x ∷ ks) (x ∷ insert_key null_cmp ks n)) ≤ length (x ∷ ks) + 1
    by Less rest = omega arith
    by Equal rest = omega arith
    by Greater rest = omega arith

fold_few : (ks ns : List NullName) → length (fold (insert_key null_cmp) ks ns) ≤ length ks + length ns
fold_few ks [] = omega arith
fold_few ks (n ∷ ns) =
    let one : length (insert_key null_cmp ks n) ≤ length ks + 1 = insert_few ks n in
    let rest : length (fold (insert_key null_cmp) (insert_key null_cmp ks n) ns) ≤ length (insert_key null_cmp ks n) + length ns = fold_few (insert_key null_cmp ks n) ns in
    omega arith

values_few : (ds : List Datum) → length (flat_map null_in ds) ≤ length ds
values_few [] = omega arith
values_few (Number z ∷ ds) = let rest : length (flat_map null_in ds) ≤ length ds = values_few ds in omega arith
values_few (Text w ∷ ds) = let rest : length (flat_map null_in ds) ≤ length ds = values_few ds in omega arith
values_few (Unknown n ∷ ds) = let rest : length (flat_map null_in ds) ≤ length ds = values_few ds in omega arith

facts_few : (rs : List RelationSchema) → AllByRecursion IsRelation rs → (most : ℕ) (D : List Fact) → AllByRecursion (IsFact rs most) D → length (flat_map nulls_in D) ≤ 8 * length D
facts_few rs all most [] h = omega arith
facts_few rs all most (t ∷ D) h =
    let one : length (nulls_in t) ≤ length t.values = values_few t.values in
    let columns : length t.values ≤ 8 = few h.0.0 in
    let rest : length (flat_map nulls_in D) ≤ 8 * length D = facts_few rs all most D h.1 in
    let join : length (nulls_in t ++ flat_map nulls_in D) ≡ length (nulls_in t) + length (flat_map nulls_in D) = length-append (nulls_in t) (flat_map nulls_in D) in
    omega arith
  where
    few : HasColumns rs t.relation (length t.values) → length t.values ≤ 8
    few (s, there, e) = let arity : s.arity ≤ 8 = (all_at IsRelation rs t.relation s all there).1 in omega arith

-- ---- names

passing_few : {A : Type 0} (p : A → Bool) (xs : List A) → passing p xs ≤ length xs
passing_few p [] = omega arith
passing_few p (x ∷ xs) = by (p x) (passing_few p xs)
  where
    by : (b : Bool) → passing p xs ≤ length xs → cond b (1 + passing p xs) (passing p xs) ≤ length (x ∷ xs)
    by true rest = omega arith
    by false rest = omega arith

place_small : (nulls : List NullName) (n : NullName) → length nulls ≤ 800000 → (base_null nulls n).place < 2 ^ 32
place_small nulls n few =
    let is : passing (λ m. is_lt (null_cmp m n)) nulls ≡ count_by (λ m. is_lt (null_cmp m n)) nulls = passing_is (λ m. is_lt (null_cmp m n)) nulls in
    let le : passing (λ m. is_lt (null_cmp m n)) nulls ≤ length nulls = passing_few (λ m. is_lt (null_cmp m n)) nulls in
    omega arith

value_based : (most : ℕ) (nulls : List NullName) → length nulls ≤ 800000 → (d : Datum) → IsValue most d → IsValue 0 (base_value nulls d)
value_based most nulls few (Number (pos n)) h = h
value_based most nulls few (Number (negsuc n)) h = h
value_based most nulls few (Text w) h = h
value_based most nulls few (Unknown n) h = (refl, omega arith, place_small nulls n few)

values_based : (most : ℕ) (nulls : List NullName) → length nulls ≤ 800000 → (ds : List Datum) → AllByRecursion (IsValue most) ds → AllByRecursion (IsValue 0) (map (base_value nulls) ds)
values_based most nulls few [] h = tt
values_based most nulls few (d ∷ ds) h = (value_based most nulls few d h.0, values_based most nulls few ds h.1)

facts_based : (rs : List RelationSchema) (most : ℕ) (nulls : List NullName) → length nulls ≤ 800000 → (D : List Fact) → AllByRecursion (IsFact rs most) D → AllByRecursion (IsFact rs 0) (map (base_fact nulls) D)
facts_based rs most nulls few [] h = tt
facts_based rs most nulls few (t ∷ D) h = (
  (subst (λ n. HasColumns rs t.relation n) (sym (length_map (base_value nulls) t.values)) h.0.0, values_based most nulls few t.values h.0.1),
  facts_based rs most nulls few D h.1,
)

pub base_facts : (rs : List RelationSchema) → AllByRecursion IsRelation rs → (most : ℕ) (D : List Fact) → length D ≤ 100000 → AllByRecursion (IsFact rs most) D → AllByRecursion (IsFact rs 0) (saved_base D)
base_facts rs all most D few h =
    let nulls : length (fold (insert_key null_cmp) [] (flat_map nulls_in D)) ≤ 0 + length (flat_map nulls_in D) = fold_few [] (flat_map nulls_in D) in
    let all_nulls : length (flat_map nulls_in D) ≤ 8 * length D = facts_few rs all most D h in
    facts_based rs most (different_nulls D) (omega arith) D h
