-- The causes that the conflict set and the cascade name hold.
use Rattle.std.proofs.Common.{◌≡◌, ℕ, zero, suc, ◌<◌, ◌+◌, ap, sym, refl, subst, ◌∙◌, List, [], ◌∷◌, ◌++◌, take, drop, append_assoc, append-nil, Bool, true, false, ◌||◌, arith, Some, None}
use Rattle.std.specs.Prelude.{if◌then◌else◌, Option, slice_get, option_map}
use Rattle.std.specs.List.{AllByRecursion, list_any, flat_map}
use Rattle.std.proofs.lemmas.Bool.{both_ways}
use Rattle.std.proofs.lemmas.Option.{same_Some, none-some}
use Rattle.def_machine.specs.Machine.{Machine}
use Rattle.def_machine.specs.Updates.{Read, Update, trail}
use Rattle.def_machine.specs.Reads.{first_that}
use Rattle.def_machine.specs.Cascade.{Member, reads_of, writer_for, has_number}
use Rattle.def_machine.specs.CauseLaw.{IsFirst, trails_without, members_of, IsWriter}

pub all_join : {A : Type 0} (P : A → Type 0) (xs ys : List A) → AllByRecursion P xs → AllByRecursion P ys → AllByRecursion P (xs ++ ys)
all_join P [] ys a b = b
all_join P (x ∷ xs) ys a b = (a.0, all_join P xs ys a.1 b)

-- ---- the first that passes

next_first : {A : Type 0} (p : A → Bool) (x y : A) (xs : List A) (i : ℕ) → p x ≡ false → IsFirst p xs i y → IsFirst p (x ∷ xs) (suc i) y
next_first {A} p x y xs i e f = record { found = f.found; passes = f.passes; earlier = λ k z h g. by k z h g }
  where
    by : (k : ℕ) (z : A) → k < suc i → slice_get (x ∷ xs) k ≡ Some z → p z ≡ false
    by zero z h g = ap p (sym (same_Some _ _ g)) ∙ e
    by (suc k) z h g = f.earlier k z (omega (arith, h)) g

-- what `first_that` gives, with its place from 0
pub record Found {A : Type 0} (p : A → Bool) (xs : List A) (t : ℕ × A) : Type 0 where
  pub place : ℕ
  pub is_place : t.0 ≡ suc place
  pub first : IsFirst p xs place t.1

pub first_is : {A : Type 0} (p : A → Bool) (xs : List A) (t : ℕ × A) → first_that p xs ≡ Some t → Found p xs t
first_is p [] t h = absurd (none-some t h)
first_is {A} p (x ∷ xs) t h = by (p x) refl h (first_that p xs) refl (λ t g. first_is p xs t g)
  where
    by : (b : Bool) → p x ≡ b → ◌≡◌ {A = Option (ℕ × A)} (if b then Some (1, x) else option_map {T = ℕ × A} {U = ℕ × A} (λ t. (suc t.0, t.1)) (first_that p xs)) (Some t)
        → (o : Option (ℕ × A)) → first_that p xs ≡ o → ((t : ℕ × A) → first_that p xs ≡ Some t → Found p xs t) → Found p (x ∷ xs) t
    by true e g o k rec =
        let same : ◌≡◌ {A = ℕ × A} (1, x) t = same_Some _ _ g in
        record {
          place = 0;
          is_place = ap (λ (y : ℕ × A). y.0) (sym same);
          first = record { found = ap (λ (y : ℕ × A). Some y.1) same; passes = ap (λ (y : ℕ × A). p y.1) (sym same) ∙ e; earlier = λ k y l q. absurd (omega (arith, l)) };
        }
    by false e g None k rec = absurd (none-some t (ap (option_map {T = ℕ × A} {U = ℕ × A} (λ t. (suc t.0, t.1))) (sym k) ∙ g))
    by false e g (Some y) k rec =
        let r : Found p xs y = rec y k in
        let same : ◌≡◌ {A = ℕ × A} (suc y.0, y.1) t = same_Some _ _ (ap (option_map {T = ℕ × A} {U = ℕ × A} (λ t. (suc t.0, t.1))) (sym k) ∙ g) in
        record {
          place = suc r.place;
          is_place = ap (λ (z : ℕ × A). z.0) (sym same) ∙ ap suc r.is_place;
          first = subst (λ z. IsFirst p (x ∷ xs) (suc r.place) z) (ap (λ (z : ℕ × A). z.1) same) (next_first p x y.1 xs r.place e r.first);
        }

pub writer_is : (M : Machine) (r : Read M) (ms : List (Member M)) → list_any (λ m. reads_of M r m.trail) ms ≡ true → IsWriter M ms r (writer_for M r ms)
writer_is M r [] h = absurd (both_ways false refl h)
writer_is M r (m ∷ ms) h = by (reads_of M r m.trail) refl h (λ g. writer_is M r ms g)
  where
    by : (b : Bool) → reads_of M r m.trail ≡ b → (b || list_any (λ m. reads_of M r m.trail) ms) ≡ true → (list_any (λ m. reads_of M r m.trail) ms ≡ true → IsWriter M ms r (writer_for M r ms))
        → IsWriter M (m ∷ ms) r (if b then m.number else writer_for M r ms)
    by true e g rec = record { place = 0; member = m; first = record { found = refl; passes = e; earlier = λ k y l q. absurd (omega (arith, l)) }; is_on = refl }
    by false e g rec =
        let w = rec g in
        record { place = suc w.place; member = w.member; first = next_first (λ (m : Member M). reads_of M r m.trail) m w.member ms w.place e w.first; is_on = w.is_on }

-- ---- places

pub head_of : {A : Type 0} (k : ℕ) (xs : List A) (y : A) (ys : List A) → drop k xs ≡ y ∷ ys → slice_get xs k ≡ Some y
head_of zero xs y ys h = ap (λ l. slice_get l 0) h
head_of (suc k) [] y ys h = ap (λ l. slice_get l 0) h
head_of (suc k) (x ∷ xs) y ys h = head_of k xs y ys h

pub rest_of : {A : Type 0} (k : ℕ) (xs : List A) (y : A) (ys : List A) → drop k xs ≡ y ∷ ys → drop (suc k) xs ≡ ys
rest_of zero [] y ys h = ap (λ l. drop 1 l) h
rest_of zero (x ∷ xs) y ys h = ap (λ l. drop 1 l) h
rest_of (suc k) [] y ys h = ap (λ l. drop 1 l) h
rest_of (suc k) (x ∷ xs) y ys h = rest_of k xs y ys h

module _ (M : Machine) where
  pub trails_more : (ns : List ℕ) (n k m : ℕ) (us : List (Update M)) (u : Update M) → m ≡ n + k → slice_get us k ≡ Some u → trails_without M ns n (take (suc k) us) ≡ trails_without M ns n (take k us) ++ (if has_number ns m then [] else trail M u)
  trails_more ns n k m [] u e h = absurd (none-some u h)
  trails_more ns n zero m (v ∷ us) u e h =
      let f : n ≡ m = omega arith in
      append-nil (if has_number ns n then [] else trail M v) ∙ (λ i. if has_number ns (f i) then [] else trail M (same_Some v u h i))
  trails_more ns n (suc k) m (v ∷ us) u e h =
      ap (λ ws. (if has_number ns n then [] else trail M v) ++ ws) (trails_more ns (suc n) k m us u (omega (arith, e)) h)
      ∙ sym (append_assoc (if has_number ns n then [] else trail M v) (trails_without M ns (suc n) (take k us)) (if has_number ns m then [] else trail M u))

  pub members_more : (ns : List ℕ) (n k m : ℕ) (us : List (Update M)) (u : Update M) → m ≡ n + k → slice_get us k ≡ Some u → members_of M ns n (take (suc k) us) ≡ members_of M ns n (take k us) ++ (if has_number ns m then record { number = m; trail = trail M u } ∷ [] else [])
  members_more ns n k m [] u e h = absurd (none-some u h)
  members_more ns n zero m (v ∷ us) u e h =
      let f : n ≡ m = omega arith in
      append-nil (if has_number ns n then record { number = n; trail = trail M v } ∷ [] else []) ∙ (λ i. if has_number ns (f i) then record { number = f i; trail = trail M (same_Some v u h i) } ∷ [] else [])
  members_more ns n (suc k) m (v ∷ us) u e h =
      ap (λ ws. (if has_number ns n then record { number = n; trail = trail M v } ∷ [] else []) ++ ws) (members_more ns (suc n) k m us u (omega (arith, e)) h)
      ∙ sym (append_assoc (if has_number ns n then record { number = n; trail = trail M v } ∷ [] else []) (members_of M ns (suc n) (take k us)) (if has_number ns m then record { number = m; trail = trail M u } ∷ [] else []))

  -- without members all trails are there
  pub none_without : (ns : List ℕ) (n k : ℕ) (us : List (Update M)) → ((m : ℕ) → m < n + k → has_number ns m ≡ false) → (trails_without M ns n (take k us) ≡ flat_map (trail M) (take k us)) × (members_of M ns n (take k us) ≡ [])
  none_without ns n zero us h = (refl, refl)
  none_without ns n (suc k) [] h = (refl, refl)
  none_without ns n (suc k) (u ∷ us) h =
      let out : has_number ns n ≡ false = h n (omega arith) in
      let rest = none_without ns (suc n) k us (λ m l. h m (omega (arith, l))) in
      ((λ i. (if out i then [] else trail M u) ++ rest.0 i), (λ i. (if out i then record { number = n; trail = trail M u } ∷ [] else []) ++ rest.1 i))
