-- Sorted lists of keys: what is put into one by what it means, and how many of its keys are below a key.
use Rattle.std.proofs.Common.{◌≡◌, ◌∙◌, ℕ, zero, suc, ◌+◌, ◌<◌, ◌≤◌, Bool, true, false, List, [], ◌∷◌, length, map, refl, sym, ap, arith, cond}
use Rattle.std.specs.Prelude.{count_by, slice_index_or}
use Rattle.std.proofs.lemmas.List.Recursion.{is_count_by}
use Rattle.std.specs.Cmp.{IsTotalOrder}
use Rattle.std.specs.BTreeSet.{insert_key}
use Rattle.std.specs.Ordering.{is_lt, match_ordering, on}
use Rattle.std.specs.declared.cmp.Ordering.{Ordering}
use Rattle.std.specs.declared.cmp.Ordering.TheVariants.{Less, Equal, Greater}
use Rattle.std.specs.List.{AllByRecursion}
use Rattle.std.specs.List.Sorted.{IsStrictlySortedBy, IsPartitionedBy, IsPartitionPoint}

-- a key put in by what it means
pub insert_meant : {A B : Type 0} (f : A → B) (cmp : B → B → Ordering) (ks : List A) (k : A) → map f (insert_key (on f cmp) ks k) ≡ insert_key cmp (map f ks) (f k)
insert_meant f cmp [] k = refl
insert_meant f cmp (x ∷ ks) k = by (cmp (f k) (f x)) (insert_meant f cmp ks k)
  where
    by : (o : Ordering) → map f (insert_key (on f cmp) ks k) ≡ insert_key cmp (map f ks) (f k)
        → map f (match_ordering o (k ∷ x ∷ ks) (x ∷ ks) (x ∷ insert_key (on f cmp) ks k))
        ≡ match_ordering o (f k ∷ f x ∷ map f ks) (f x ∷ map f ks) (f x ∷ insert_key cmp (map f ks) (f k))
    by Less h = refl
    by Equal h = refl
    by Greater h = ap (λ l. f x ∷ l) h

-- what is less
pub lt_true : (o : Ordering) → is_lt o ≡ true → o ≡ Less
lt_true Less e = refl
lt_true Equal e = cc
lt_true Greater e = cc

pub less_true : (o : Ordering) → o ≡ Less → is_lt o ≡ true
less_true o e = ap is_lt e

-- what holds of all holds at a place
at_place : {A : Type 0} (P : A → Type 0) (xs : List A) (j : ℕ) (d : A) → AllByRecursion P xs → j < length xs → P (slice_index_or xs j d)
at_place P [] j d all lt = absurd (omega arith)
at_place P (x ∷ xs) zero d all lt = all.0
at_place P (x ∷ xs) (suc j) d all lt = at_place P xs j d all.1 (omega arith)

-- the keys below a key stand in front
pub below_in_front : {A : Type 0} (cmp : A → A → Ordering) → IsTotalOrder cmp → (xs : List A) (n : A) → IsStrictlySortedBy cmp xs → IsPartitionedBy (λ y. is_lt (cmp y n)) xs
unfolding IsStrictlySortedBy
below_in_front cmp total [] n s i j d le lt h = absurd (omega arith)
below_in_front cmp total (x ∷ xs) n s zero zero d le lt h = h
below_in_front cmp total (x ∷ xs) n s zero (suc j) d le lt h =
    less_true (cmp x n) (total.trans x (slice_index_or xs j d) n (at_place (λ y. cmp x y ≡ Less) xs j d s.0 (omega arith)) (lt_true (cmp (slice_index_or xs j d) n) h))
below_in_front cmp total (x ∷ xs) n s (suc i) zero d le lt h = absurd (omega arith)
below_in_front cmp total (x ∷ xs) n s (suc i) (suc j) d le lt h = below_in_front cmp total xs n s.1 i j d (omega arith) (omega arith) h

-- how many pass, one by one
abbrev pub passing : {A : Type 0} → (A → Bool) → List A → ℕ
passing p [] = 0
passing p (x ∷ xs) = cond (p x) (1 + passing p xs) (passing p xs)

pub passing_is : {A : Type 0} (p : A → Bool) (xs : List A) → passing p xs ≡ count_by p xs
passing_is p xs = is_count_by (passing p) p refl (λ y ys. refl) xs

-- where those that pass stand in front of a place, it is their number
in_front : {A : Type 0} (p : A → Bool) (xs : List A) (i : ℕ) → i ≤ length xs → IsPartitionPoint (λ y. p y ≡ true) (λ y. p y ≡ false) xs i → i ≡ passing p xs
in_front p [] i le h = omega arith
in_front p (x ∷ xs) zero le h =
    in_front p xs 0 (omega arith) ((λ k d lo hi. absurd (omega arith)), (λ k d lo hi. h.1 (suc k) d (omega arith) (omega arith)))
    ∙ sym (ap (λ (b : Bool). cond b (1 + passing p xs) (passing p xs)) (h.1 0 x (omega arith) (omega arith)))
in_front p (x ∷ xs) (suc i) le h =
    let rest : i ≡ passing p xs = in_front p xs i (omega arith) ((λ k d lo hi. h.0 (suc k) d (omega arith) (omega arith)), (λ k d lo hi. h.1 (suc k) d (omega arith) (omega arith))) in
    let more : suc i ≡ 1 + passing p xs = omega (arith, rest) in
    more ∙ sym (ap (λ (b : Bool). cond b (1 + passing p xs) (passing p xs)) (h.0 0 x (omega arith) (omega arith)))

pub count_in_front : {A : Type 0} (p : A → Bool) (xs : List A) (i : ℕ) → i ≤ length xs → IsPartitionPoint (λ y. p y ≡ true) (λ y. p y ≡ false) xs i → i ≡ count_by p xs
count_in_front p xs i le h = in_front p xs i le h ∙ passing_is p xs

images_passing : {A B : Type 0} (f : A → B) (p : B → Bool) (xs : List A) → passing (λ x. p (f x)) xs ≡ passing p (map f xs)
images_passing f p [] = refl
images_passing f p (x ∷ xs) = ap (λ (n : ℕ). cond (p (f x)) (1 + n) n) (images_passing f p xs)

-- how many of the images pass
pub count_meant : {A B : Type 0} (f : A → B) (p : B → Bool) (xs : List A) → count_by (λ x. p (f x)) xs ≡ count_by p (map f xs)
count_meant f p xs = sym (passing_is (λ x. p (f x)) xs) ∙ images_passing f p xs ∙ passing_is p (map f xs)
