-- Small facts on tests, options and lists.
use Rattle.std.proofs.Common.{ap, ◌≡◌, ℕ, zero, suc, ◌<◌, ◌≤◌, refl, ◌∙◌, List, [], ◌∷◌, ◌++◌, take, length, Bool, true, false, not, ◌&&◌, ◌||◌, arith, Some, None}
use Rattle.std.specs.Prelude.{if◌then◌else◌, Option, slice_get, option_map, is_some}
use Rattle.std.specs.List.{list_any, list_all}
use Rattle.std.proofs.lemmas.Bool.{or_parts, and_from, not-false, both_ways}
use Rattle.std.proofs.lemmas.Option.{none-some, same_Some}
use Rattle.def_machine.specs.Reads.{first_that}
use Rattle.def_machine.specs.Settle.{or_else}

-- ---- tests

pub if_both : {A : Type 0} (P : A → Type 0) (b : Bool) (x y : A) → (b ≡ true → P x) → (b ≡ false → P y) → P (if b then x else y)
if_both P true x y f g = f refl
if_both P false x y f g = g refl

pub if_true : {A : Type 0} (b : Bool) (x y : A) → b ≡ true → (if b then x else y) ≡ x
if_true true x y h = refl
if_true false x y h = absurd (both_ways false refl h)

pub if_false : {A : Type 0} (b : Bool) (x y : A) → b ≡ false → (if b then x else y) ≡ y
if_false false x y h = refl
if_false true x y h = absurd (both_ways true h refl)

pub if_some : {A : Type 0} (b : Bool) (x : Option A) (y : A) → (if b then x else None) ≡ Some y → (b ≡ true) × (x ≡ Some y)
if_some true x y h = (refl, h)
if_some false x y h = absurd (none-some y h)

-- ---- options

pub some_map : {A B : Type 0} (f : A → B) (o : Option A) → is_some (option_map f o) ≡ is_some o
some_map f None = refl
some_map f (Some x) = refl

pub some_if : {A : Type 0} (b : Bool) (o : Option A) → is_some (if b then o else None) ≡ (b && is_some o)
some_if true o = refl
some_if false o = refl

pub some_or : {A : Type 0} (a b : Option A) → is_some (or_else a b) ≡ (is_some a || is_some b)
some_or None b = refl
some_or (Some x) b = refl

pub some_first : {A : Type 0} (p : A → Bool) (xs : List A) → is_some (first_that p xs) ≡ list_any p xs
some_first p [] = refl
some_first {A} p (x ∷ xs) = by (p x) (some_map {A = ℕ × A} {B = ℕ × A} (λ t. (suc t.0, t.1)) (first_that p xs) ∙ some_first p xs)
  where
    by : (b : Bool) → is_some {T = ℕ × A} (option_map {T = ℕ × A} {U = ℕ × A} (λ t. (suc t.0, t.1)) (first_that p xs)) ≡ list_any p xs
        → is_some {T = ℕ × A} (if b then Some (1, x) else option_map {T = ℕ × A} {U = ℕ × A} (λ t. (suc t.0, t.1)) (first_that p xs)) ≡ (b || list_any p xs)
    by true r = refl
    by false r = r

pub none_from : {A : Type 0} (o : Option A) → is_some o ≡ false → o ≡ None
none_from None h = refl
none_from (Some x) h = absurd (both_ways true h refl)

pub some_of : {A B : Type 0} (f : A → B) (o : Option A) (y : B) → option_map f o ≡ Some y → (x : A) × (o ≡ Some x) × (f x ≡ y)
some_of f None y h = absurd (none-some y h)
some_of f (Some x) y h = (x, refl, same_Some _ _ h)

-- ---- lists

pub all_from : {A : Type 0} (p : A → Bool) (xs : List A) → list_any (λ x. not (p x)) xs ≡ false → list_all p xs ≡ true
all_from p [] h = refl
all_from p (x ∷ xs) h = let q = or_parts _ _ h in and_from _ _ (not-false _ q.0) (all_from p xs q.1)

pub longer_keeps : {A : Type 0} (xs ys : List A) (k : ℕ) (c : A) → slice_get xs k ≡ Some c → slice_get (xs ++ ys) k ≡ Some c
longer_keeps [] ys k c h = absurd (none-some c h)
longer_keeps (x ∷ xs) ys zero c h = h
longer_keeps (x ∷ xs) ys (suc k) c h = longer_keeps xs ys k c h

pub replaced_keeps : {A : Type 0} (xs ys : List A) (n k : ℕ) (c : A) → k < n → slice_get xs k ≡ Some c → slice_get (take n xs ++ ys) k ≡ Some c
replaced_keeps [] ys n k c l h = absurd (none-some c h)
replaced_keeps (x ∷ xs) ys zero k c l h = absurd (omega arith)
replaced_keeps (x ∷ xs) ys (suc n) zero c l h = h
replaced_keeps (x ∷ xs) ys (suc n) (suc k) c l h = replaced_keeps xs ys n k c (omega arith) h

pub length_from : {A : Type 0} (xs : List A) (k : ℕ) (x : A) → slice_get xs k ≡ Some x → k ≤ length xs
length_from [] k x h = absurd (none-some x h)
length_from (y ∷ xs) zero x h = omega arith
length_from (y ∷ xs) (suc k) x h = omega (arith, length_from xs k x h)

pub there : {A : Type 0} (xs : List A) (k : ℕ) → k < length xs → (x : A) × (slice_get xs k ≡ Some x)
there [] k h = absurd (omega arith)
there (x ∷ xs) zero h = (x, refl)
there (x ∷ xs) (suc k) h = there xs k (omega arith)

pub last_is : {A : Type 0} (xs : List A) (x : A) → slice_get (xs ++ x ∷ []) (length xs) ≡ Some x
last_is [] x = refl
last_is (y ∷ xs) x = last_is xs x

pub length_more : {A : Type 0} (xs : List A) (x : A) → length (xs ++ x ∷ []) ≡ suc (length xs)
length_more [] x = refl
length_more (y ∷ xs) x = ap suc (length_more xs x)
