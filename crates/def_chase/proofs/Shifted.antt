-- A shift of attempt numbers keeps the order of values and tuples, so it goes through repositories.
use Rattle.std.proofs.Common.{◌≡◌, ℕ, ◌+◌, ap, refl, sym, ◌∙◌, List, [], ◌∷◌, map, not, ◌||◌, arith}
use Rattle.std.specs.BTreeSet.{insert_key}
use Rattle.std.specs.Cmp.Lexicographic.{slice_cmp}
use Rattle.std.specs.Ordering.{nat_cmp, ordering_then, is_eq, match_ordering}
use Rattle.std.specs.Prelude.{filter}
use Rattle.std.specs.declared.cmp.Ordering.{Ordering}
use Rattle.std.specs.declared.cmp.Ordering.TheVariants.{Less, Equal, Greater}
use Rattle.std.proofs.lemmas.Bool.Decides.{nat_tests}
use Rattle.std.proofs.lemmas.Map.Lookups.{exact_unsigned}
use Rattle.def_chase.specs.Values.{NullName, Datum, Number, Text, Unknown, Fact, null_cmp, datum_cmp, fact_cmp, same_fact, outer_datum, same_datum, outer}
use Rattle.def_chase.specs.Repository.{Change, Insert, Delete, has, apply}
use Rattle.def_chase.specs.Specific.{is_constant}
use Rattle.def_chase.specs.Queries.{is_named, holds_null}
use Rattle.def_chase.specs.Shifts.{shift, shift_fact, shift_change}
use Rattle.def_chase.proofs.Maps.{any_map, filter_map}

shifted_cmp : (a b k : ℕ) → nat_cmp (a + k) (b + k) ≡ nat_cmp a b
shifted_cmp a b k = grind (arith, nat_tests)

then_same : (o p q : Ordering) → (o ≡ Equal → p ≡ q) → ordering_then o p ≡ ordering_then o q
then_same Less p q h = refl
then_same Equal p q h = h refl
then_same Greater p q h = refl

null_shift : (n : ℕ → ℕ) (l m : NullName) → null_cmp (record { update = l.update; attempt = l.attempt + n l.update; place = l.place }) (record { update = m.update; attempt = m.attempt + n m.update; place = m.place }) ≡ null_cmp l m
null_shift n l m =
    then_same (nat_cmp l.update m.update) _ _ (λ e. ap (ordering_then (nat_cmp l.place m.place))
    (ap (λ u. nat_cmp (l.attempt + n l.update) (m.attempt + n u)) (sym (exact_unsigned l.update m.update e)) ∙ shifted_cmp l.attempt m.attempt (n l.update)))

pub shift_keeps : (n : ℕ → ℕ) (x y : Datum) → datum_cmp (shift n x) (shift n y) ≡ datum_cmp x y
shift_keeps n (Number i) (Number j) = refl
shift_keeps n (Number i) (Text w) = refl
shift_keeps n (Number i) (Unknown m) = refl
shift_keeps n (Text v) (Number j) = refl
shift_keeps n (Text v) (Text w) = refl
shift_keeps n (Text v) (Unknown m) = refl
shift_keeps n (Unknown l) (Number j) = refl
shift_keeps n (Unknown l) (Text w) = refl
shift_keeps n (Unknown l) (Unknown m) = null_shift n l m

pub outer_shift : (n : ℕ → ℕ) (x : Datum) → outer_datum (shift n x) ≡ outer_datum x
outer_shift n (Number i) = refl
outer_shift n (Text w) = refl
outer_shift n (Unknown m) = refl

module _ (n : ℕ → ℕ) where
  values_shift : (xs ys : List Datum) → slice_cmp datum_cmp (map (shift n) xs) (map (shift n) ys) ≡ slice_cmp datum_cmp xs ys
  values_shift [] [] = refl
  values_shift [] (y ∷ ys) = refl
  values_shift (x ∷ xs) [] = refl
  values_shift (x ∷ xs) (y ∷ ys) = λ i. ordering_then (shift_keeps n x y i) (values_shift xs ys i)

  pub fact_cmp_shifts : (s t : Fact) → fact_cmp (shift_fact n s) (shift_fact n t) ≡ fact_cmp s t
  fact_cmp_shifts s t = ap (ordering_then (nat_cmp s.relation t.relation)) (values_shift s.values t.values)

  pub same_datum_shifts : (x y : Datum) → same_datum (shift n x) (shift n y) ≡ same_datum x y
  same_datum_shifts x y = ap is_eq (shift_keeps n x y)

  pub same_fact_shifts : (s t : Fact) → same_fact (shift_fact n s) (shift_fact n t) ≡ same_fact s t
  same_fact_shifts s t = ap is_eq (fact_cmp_shifts s t)

  pub is_constant_shifts : (x : Datum) → is_constant (shift n x) ≡ is_constant x
  is_constant_shifts (Number i) = refl
  is_constant_shifts (Text w) = refl
  is_constant_shifts (Unknown m) = refl

  pub is_named_shifts : (u k : ℕ) (x : Datum) → is_named u k (shift n x) ≡ is_named u k x
  is_named_shifts u k (Number i) = refl
  is_named_shifts u k (Text w) = refl
  is_named_shifts u k (Unknown m) = refl

  pub has_shifts : (D : List Fact) (t : Fact) → has (map (shift_fact n) D) (shift_fact n t) ≡ has D t
  has_shifts [] t = refl
  has_shifts (u ∷ D) t = λ i. is_eq (fact_cmp_shifts t u i) || has_shifts D t i

  insert_shifts : (D : List Fact) (t : Fact) → insert_key fact_cmp (map (shift_fact n) D) (shift_fact n t) ≡ map (shift_fact n) (insert_key fact_cmp D t)
  insert_shifts [] t = refl
  insert_shifts (u ∷ D) t =
      (λ i. match_ordering (fact_cmp_shifts t u i) (shift_fact n t ∷ shift_fact n u ∷ map (shift_fact n) D) (shift_fact n u ∷ map (shift_fact n) D) (shift_fact n u ∷ insert_shifts D t i)) ∙ by (fact_cmp t u)
    where
      by : (o : Ordering) → match_ordering o (shift_fact n t ∷ shift_fact n u ∷ map (shift_fact n) D) (shift_fact n u ∷ map (shift_fact n) D) (shift_fact n u ∷ map (shift_fact n) (insert_key fact_cmp D t))
          ≡ map (shift_fact n) (match_ordering o (t ∷ u ∷ D) (u ∷ D) (u ∷ insert_key fact_cmp D t))
      by Less = refl
      by Equal = refl
      by Greater = refl

  pub apply_shifts : (D : List Fact) (ws : List Change) → apply (map (shift_fact n) D) (map (shift_change n) ws) ≡ map (shift_fact n) (apply D ws)
  apply_shifts D [] = refl
  apply_shifts D (Insert t ∷ ws) = ap (λ E. apply E (map (shift_change n) ws)) (insert_shifts D t) ∙ apply_shifts (insert_key fact_cmp D t) ws
  apply_shifts D (Delete t ∷ ws) =
      ap (λ E. apply E (map (shift_change n) ws)) (filter_map (shift_fact n) (λ s. not (same_fact (shift_fact n t) s)) (λ s. not (same_fact t s)) (λ s. ap (λ o. not (is_eq o)) (fact_cmp_shifts t s)) D)
      ∙ apply_shifts (filter (λ s. not (same_fact t s)) D) ws

  pub holds_null_shifts : (u k : ℕ) (t : Fact) → holds_null u k (shift_fact n t) ≡ holds_null u k t
  holds_null_shifts u k t = any_map (shift n) (is_named u k) (is_named u k) (is_named_shifts u k) t.values

  pub outer_fact_shifts : (t : Fact) → outer (shift_fact n t) ≡ outer t
  outer_fact_shifts t = ap (λ ds. record { relation = t.relation; values = ds }) (values t.values)
    where
      values : (ds : List Datum) → map outer_datum (map (shift n) ds) ≡ map outer_datum ds
      values [] = refl
      values (d ∷ ds) = λ i. outer_shift n d i ∷ values ds i
