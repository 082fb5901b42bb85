-- The tests of what fits a session: values in their ranges, and tuples of a relation that is there.
use Rattle.std.specs.Prelude.{slice_get, pos, negsuc, nat_lt}
use Rattle.std.proofs.Common.{◌≡◌, ℕ, ◌+◌, ◌≤◌, ◌<◌, ◌^◌, ◌==◌, ap, refl, ◌∙◌, List, [], ◌∷◌, map, length, Bool, true, false, not, ◌&&◌, ◌||◌, cond, Option, Some, None, arith}
use Rattle.std.specs.List.{list_any, list_all, AllByRecursion}
use Rattle.std.specs.Str.{is_utf8}
use Rattle.std.proofs.lemmas.Bool.{and_parts, both_ways, eqb-true, eq-eqb, ltb-true, lt-ltb}
use Rattle.std.proofs.lemmas.Bool.Decides.{nat_tests}
use Rattle.std.proofs.lemmas.Str.{IsUtf8-from_is_utf8, is_utf8-from_IsUtf8}
use Rattle.def_chase.specs.Values.{Datum, Number, Text, Unknown, Fact, under}
use Rattle.def_chase.specs.Mappings.{force_relation}
use Rattle.def_chase.specs.Queries.{is_named, holds_null}
use Rattle.def_chase.specs.Caused.{KeepsConstants}
use Rattle.def_chase.proofs.Bools.{both, differ, or_left, or_right}
use Rattle.def_chase.proofs.Maps.{length_map}
use Rattle.def_language.specs.Sessions.{RelationSchema}
use Rattle.def_language.specs.Validity.{IsValue, HasColumns, IsFact}
use Rattle.def_steps.proofs.Passing.{all_weaker, all_mapped}
use Rattle.run_laws.proofs.Closed.{is_plain}

-- ---- values

-- A value that may stand there once the first `most` updates are begun and the last of them has drawn k nulls.
abbrev pub is_value : ℕ → ℕ → Datum → Bool
is_value most k (Number (pos n)) = nat_lt n (2 ^ 63)
is_value most k (Number (negsuc n)) = nat_lt n (2 ^ 63)
is_value most k (Text w) = not (nat_lt 256 (length w)) && is_utf8 w
is_value most k (Unknown n) = (n.attempt == 0) && (not (nat_lt most n.update) && (nat_lt n.place (2 ^ 32) || not (nat_lt k n.place)))

not_above : (n m : ℕ) → n ≤ m → not (nat_lt m n) ≡ true
not_above n m h = let e : nat_lt m n ≡ false = grind (arith, nat_tests) in ap not e

at_most : (n m : ℕ) → not (nat_lt m n) ≡ true → n ≤ m
at_most n m h = grind (arith, nat_tests)

pub value_passes : (most k : ℕ) (d : Datum) → IsValue most d → is_value most k d ≡ true
value_passes most k (Number (pos n)) h = lt-ltb n (2 ^ 63) h
value_passes most k (Number (negsuc n)) h = lt-ltb n (2 ^ 63) h
value_passes most k (Text w) h = both (not (nat_lt 256 (length w))) (is_utf8 w) (not_above (length w) 256 h.0) (is_utf8-from_IsUtf8 w h.1)
value_passes most k (Unknown n) h =
    both (n.attempt == 0) _ (eq-eqb n.attempt 0 h.0) (both (not (nat_lt most n.update)) _ (not_above n.update most h.1) (or_left (nat_lt n.place (2 ^ 32)) _ (lt-ltb n.place (2 ^ 32) h.2)))

pub value_is : (most k : ℕ) (d : Datum) → k < 2 ^ 32 → is_value most k d ≡ true → IsValue most d
value_is most k (Number (pos n)) l h = ltb-true n (2 ^ 63) h
value_is most k (Number (negsuc n)) l h = ltb-true n (2 ^ 63) h
value_is most k (Text w) l h = let e = and_parts (not (nat_lt 256 (length w))) (is_utf8 w) h in (at_most (length w) 256 e.0, IsUtf8-from_is_utf8 w e.1)
value_is most k (Unknown n) l h =
    let e = and_parts (n.attempt == 0) _ h in
    let f = and_parts (not (nat_lt most n.update)) _ e.1 in
    (eqb-true n.attempt 0 e.0, at_most n.update most f.0, placed (nat_lt n.place (2 ^ 32)) refl f.1)
  where
    placed : (b : Bool) → nat_lt n.place (2 ^ 32) ≡ b → (b || not (nat_lt k n.place)) ≡ true → n.place < 2 ^ 32
    placed true e f = ltb-true n.place (2 ^ 32) e
    placed false e f = let le : n.place ≤ k = at_most n.place k f in omega arith

-- more pass the more updates are begun and nulls are drawn
pub value_later : (most more k j : ℕ) → most ≤ more → k ≤ j → (d : Datum) → is_value most k d ≡ true → is_value more j d ≡ true
value_later most more k j l g (Number (pos n)) h = h
value_later most more k j l g (Number (negsuc n)) h = h
value_later most more k j l g (Text w) h = h
value_later most more k j l g (Unknown n) h =
    let e = and_parts (n.attempt == 0) _ h in
    let f = and_parts (not (nat_lt most n.update)) _ e.1 in
    let update : n.update ≤ most = at_most n.update most f.0 in
    both (n.attempt == 0) _ e.0 (both (not (nat_lt more n.update)) _ (not_above n.update more (omega arith)) (placed (nat_lt n.place (2 ^ 32)) f.1))
  where
    placed : (b : Bool) → (b || not (nat_lt k n.place)) ≡ true → (b || not (nat_lt j n.place)) ≡ true
    placed true f = refl
    placed false f = let le : n.place ≤ k = at_most n.place k f in not_above n.place j (omega arith)

-- a null that update `most` draws
pub drawn_passes : (most k j i : ℕ) → 1 ≤ i → i ≤ j → is_value most (k + j) (Unknown record { update = most; attempt = 0; place = k + i }) ≡ true
drawn_passes most k j i l h = both (not (nat_lt most most)) _ (not_above most most (omega arith)) (or_right (nat_lt (k + i) (2 ^ 32)) _ (not_above (k + i) (k + j) (omega arith)))

-- ---- tuples

abbrev pub columns_are : ℕ → Option RelationSchema → Bool
columns_are n None = false
columns_are n (Some r) = r.arity == n

-- the relation of that number has so many columns
abbrev pub has_columns : List RelationSchema → ℕ → ℕ → Bool
has_columns rs r n = columns_are n (slice_get rs r)

-- the values of a tuple that says a mapping is in force
abbrev pub names_mapping : List Datum → Bool
names_mapping (Number (pos n) ∷ []) = nat_lt n (2 ^ 63)
names_mapping _ = false

-- The tuple says that a mapping is in force, or fits a relation.
abbrev pub fits : List RelationSchema → ℕ → ℕ → Fact → Bool
fits rs most k t = cond (t.relation == force_relation) (names_mapping t.values) (has_columns rs t.relation (length t.values) && list_all (is_value most k) t.values)

pub columns_pass : (rs : List RelationSchema) (r n : ℕ) → HasColumns rs r n → has_columns rs r n ≡ true
columns_pass rs r n (s, there, e) = ap (columns_are n) there ∙ eq-eqb s.arity n e

columns_there : (rs : List RelationSchema) (r n : ℕ) → has_columns rs r n ≡ true → HasColumns rs r n
columns_there rs r n h = by (slice_get rs r) refl h
  where
    by : (o : Option RelationSchema) → slice_get rs r ≡ o → columns_are n o ≡ true → HasColumns rs r n
    by None e g = differ g
    by (Some s) e g = (s, e, eqb-true s.arity n g)

values_pass : (most k : ℕ) (ds : List Datum) → AllByRecursion (IsValue most) ds → list_all (is_value most k) ds ≡ true
values_pass most k [] h = refl
values_pass most k (d ∷ ds) h = both (is_value most k d) (list_all (is_value most k) ds) (value_passes most k d h.0) (values_pass most k ds h.1)

values_are : (most k : ℕ) (ds : List Datum) → k < 2 ^ 32 → list_all (is_value most k) ds ≡ true → AllByRecursion (IsValue most) ds
values_are most k [] l h = tt
values_are most k (d ∷ ds) l h = let e = and_parts (is_value most k d) (list_all (is_value most k) ds) h in (value_is most k d l e.0, values_are most k ds l e.1)

-- a plain tuple fits where its columns and values do
pub plain_fits : (rs : List RelationSchema) (most k : ℕ) (t : Fact) → (t.relation == force_relation) ≡ false → has_columns rs t.relation (length t.values) ≡ true → list_all (is_value most k) t.values ≡ true → fits rs most k t ≡ true
plain_fits rs most k t e h g =
    ap (λ b. cond b (names_mapping t.values) (has_columns rs t.relation (length t.values) && list_all (is_value most k) t.values)) e
    ∙ both (has_columns rs t.relation (length t.values)) (list_all (is_value most k) t.values) h g

pub fact_fits : (rs : List RelationSchema) (most k : ℕ) (t : Fact) → (t.relation == force_relation) ≡ false → IsFact rs most t → fits rs most k t ≡ true
fact_fits rs most k t e h = plain_fits rs most k t e (columns_pass rs t.relation (length t.values) h.0) (values_pass most k t.values h.1)

-- what fits and is plain is a tuple of a relation
pub fact_is : (rs : List RelationSchema) (most k : ℕ) (t : Fact) → k < 2 ^ 32 → fits rs most k t ≡ true → is_plain t ≡ true → IsFact rs most t
fact_is rs most k t l h g = by (t.relation == force_relation) h g
  where
    by : (b : Bool) → cond b (names_mapping t.values) (has_columns rs t.relation (length t.values) && list_all (is_value most k) t.values) ≡ true → not b ≡ true → IsFact rs most t
    by true f e = differ e
    by false f e =
        let x = and_parts (has_columns rs t.relation (length t.values)) (list_all (is_value most k) t.values) f in
        (columns_there rs t.relation (length t.values) x.0, values_are most k t.values l x.1)

named_values : (most k : ℕ) (ds : List Datum) → names_mapping ds ≡ true → list_all (is_value most k) ds ≡ true
named_values most k [] h = differ h
named_values most k (Number (pos n) ∷ []) h = both (nat_lt n (2 ^ 63)) true h refl
named_values most k (Number (pos n) ∷ d ∷ ds) h = differ h
named_values most k (Number (negsuc n) ∷ ds) h = differ h
named_values most k (Text w ∷ ds) h = differ h
named_values most k (Unknown m ∷ ds) h = differ h

pub named_nulls : (v j : ℕ) (ds : List Datum) → names_mapping ds ≡ true → list_any (is_named v j) ds ≡ false
named_nulls v j [] h = differ h
named_nulls v j (Number (pos n) ∷ []) h = refl
named_nulls v j (Number (pos n) ∷ d ∷ ds) h = differ h
named_nulls v j (Number (negsuc n) ∷ ds) h = differ h
named_nulls v j (Text w ∷ ds) h = differ h
named_nulls v j (Unknown m ∷ ds) h = differ h

pub named_stay : (f : Datum → Datum) → KeepsConstants f → (ds : List Datum) → names_mapping ds ≡ true → map f ds ≡ ds
named_stay f c [] h = refl
named_stay f c (Number (pos n) ∷ []) h = λ i. c.0 (pos n) i ∷ []
named_stay f c (Number (pos n) ∷ d ∷ ds) h = differ h
named_stay f c (Number (negsuc n) ∷ ds) h = differ h
named_stay f c (Text w ∷ ds) h = differ h
named_stay f c (Unknown m ∷ ds) h = differ h

module _ (rs : List RelationSchema) where
  pub values_of : (most k : ℕ) (t : Fact) → fits rs most k t ≡ true → list_all (is_value most k) t.values ≡ true
  values_of most k t h = by (t.relation == force_relation) h
    where
      by : (b : Bool) → cond b (names_mapping t.values) (has_columns rs t.relation (length t.values) && list_all (is_value most k) t.values) ≡ true → list_all (is_value most k) t.values ≡ true
      by true f = named_values most k t.values f
      by false f = (and_parts (has_columns rs t.relation (length t.values)) (list_all (is_value most k) t.values) f).1

  pub fits_later : (most more k j : ℕ) → most ≤ more → k ≤ j → (t : Fact) → fits rs most k t ≡ true → fits rs more j t ≡ true
  fits_later most more k j l g t h = by (t.relation == force_relation) h
    where
      by : (b : Bool) → cond b (names_mapping t.values) (has_columns rs t.relation (length t.values) && list_all (is_value most k) t.values) ≡ true
          → cond b (names_mapping t.values) (has_columns rs t.relation (length t.values) && list_all (is_value more j) t.values) ≡ true
      by true f = f
      by false f =
          let e = and_parts (has_columns rs t.relation (length t.values)) (list_all (is_value most k) t.values) f in
          both _ (list_all (is_value more j) t.values) e.0 (all_weaker (is_value most k) (is_value more j) (λ d x. value_later most more k j l g d x) t.values e.1)

  pub fits_substituted : (most k : ℕ) (f : Datum → Datum) → KeepsConstants f → ((d : Datum) → is_value most k d ≡ true → is_value most k (f d) ≡ true) → (t : Fact) → fits rs most k t ≡ true → fits rs most k (under f t) ≡ true
  fits_substituted most k f c h t e = by (t.relation == force_relation) e
    where
      by : (b : Bool) → cond b (names_mapping t.values) (has_columns rs t.relation (length t.values) && list_all (is_value most k) t.values) ≡ true
          → cond b (names_mapping (map f t.values)) (has_columns rs t.relation (length (map f t.values)) && list_all (is_value most k) (map f t.values)) ≡ true
      by true g = ap names_mapping (named_stay f c t.values g) ∙ g
      by false g =
          let x = and_parts (has_columns rs t.relation (length t.values)) (list_all (is_value most k) t.values) g in
          both _ (list_all (is_value most k) (map f t.values)) (ap (has_columns rs t.relation) (length_map f t.values) ∙ x.0) (all_mapped (is_value most k) (is_value most k) f h t.values x.1)

  -- a tuple that holds a null is plain
  pub null_plain : (most k v j : ℕ) (t : Fact) → fits rs most k t ≡ true → holds_null v j t ≡ true → is_plain t ≡ true
  null_plain most k v j t h e = by (t.relation == force_relation) h
    where
      by : (b : Bool) → cond b (names_mapping t.values) (has_columns rs t.relation (length t.values) && list_all (is_value most k) t.values) ≡ true → not b ≡ true
      by true f = absurd (both_ways (holds_null v j t) (named_nulls v j t.values f) e)
      by false f = refl

  -- with fewer than 2 ^ 32 nulls drawn, what fits does so whatever is drawn
  pub fits_settled : (most k : ℕ) (t : Fact) → k < 2 ^ 32 → fits rs most k t ≡ true → fits rs most 0 t ≡ true
  fits_settled most k t l h = by (t.relation == force_relation) h
    where
      by : (b : Bool) → cond b (names_mapping t.values) (has_columns rs t.relation (length t.values) && list_all (is_value most k) t.values) ≡ true
          → cond b (names_mapping t.values) (has_columns rs t.relation (length t.values) && list_all (is_value most 0) t.values) ≡ true
      by true f = f
      by false f =
          let e = and_parts (has_columns rs t.relation (length t.values)) (list_all (is_value most k) t.values) f in
          both _ (list_all (is_value most 0) t.values) e.0 (all_weaker (is_value most k) (is_value most 0) (λ d x. value_passes most 0 d (value_is most k d l x)) t.values e.1)
