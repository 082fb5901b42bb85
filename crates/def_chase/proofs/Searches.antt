-- Lists of anything: what holds of each item, of some item, of the first that passes, and of those that pass.
use Rattle.std.proofs.Common.{◌≡◌, ℕ, zero, suc, ap, refl, sym, ◌∙◌, subst, List, [], ◌∷◌, ◌++◌, Bool, true, false, ◌||◌, ◌&&◌, cond, Option, Some, None}
use Rattle.std.specs.List.{list_any, list_all, slice_get, AllByRecursion}
use Rattle.std.specs.Prelude.{find, filter, is_some}
use Rattle.std.proofs.lemmas.Bool.{and_parts}
use Rattle.def_chase.proofs.Bools.{differ, none_some, some_same, both}

-- ---- each item

pub all_weaker : {K : Type 0} (P Q : K → Type 0) → ((x : K) → P x → Q x) → (xs : List K) → AllByRecursion P xs → AllByRecursion Q xs
all_weaker P Q h [] a = tt
all_weaker P Q h (x ∷ xs) a = (h x a.0, all_weaker P Q h xs a.1)

pub all_join : {K : Type 0} (P : K → Type 0) (xs ys : List K) → AllByRecursion P xs → AllByRecursion P ys → AllByRecursion P (xs ++ ys)
all_join P [] ys a b = b
all_join P (x ∷ xs) ys a b = (a.0, all_join P xs ys a.1 b)

pub all_at : {K : Type 0} (P : K → Type 0) (xs : List K) (i : ℕ) (x : K) → AllByRecursion P xs → slice_get xs i ≡ Some x → P x
all_at P [] i x a e = absurd (none_some x e)
all_at P (y ∷ ys) zero x a e = subst P (some_same y x e) a.0
all_at P (y ∷ ys) (suc i) x a e = all_at P ys i x a.1 e

pub all_first : {K : Type 0} (p q : K → Bool) (xs : List K) → list_all (λ x. p x && q x) xs ≡ true → list_all p xs ≡ true
all_first p q [] e = refl
all_first p q (x ∷ xs) e = let a = and_parts (p x && q x) (list_all (λ x. p x && q x) xs) e in both (p x) (list_all p xs) (and_parts (p x) (q x) a.0).0 (all_first p q xs a.1)

pub all_second : {K : Type 0} (p q : K → Bool) (xs : List K) → list_all (λ x. p x && q x) xs ≡ true → list_all q xs ≡ true
all_second p q [] e = refl
all_second p q (x ∷ xs) e = let a = and_parts (p x && q x) (list_all (λ x. p x && q x) xs) e in both (q x) (list_all q xs) (and_parts (p x) (q x) a.0).1 (all_second p q xs a.1)

-- ---- some item

pub any_join : {K : Type 0} (p : K → Bool) (xs ys : List K) → list_any p (xs ++ ys) ≡ (list_any p xs || list_any p ys)
any_join p [] ys = refl
any_join p (x ∷ xs) ys = ap (λ b. p x || b) (any_join p xs ys) ∙ or_first (p x) (list_any p xs) (list_any p ys)
  where
    or_first : (a b c : Bool) → (a || (b || c)) ≡ ((a || b) || c)
    or_first true b c = refl
    or_first false b c = refl

-- ---- the first that passes

pub found_any : {K : Type 0} (p : K → Bool) (xs : List K) → is_some (find p xs) ≡ list_any p xs
found_any p [] = refl
found_any p (x ∷ xs) = by (p x) (found_any p xs)
  where
    by : (b : Bool) → is_some (find p xs) ≡ list_any p xs → is_some (cond b (Some x) (find p xs)) ≡ (b || list_any p xs)
    by true h = refl
    by false h = h

pub found_passes : {K : Type 0} (p : K → Bool) (xs : List K) (x : K) → find p xs ≡ Some x → p x ≡ true
found_passes p [] x e = absurd (none_some x e)
found_passes p (y ∷ ys) x e = by (p y) refl e (found_passes p ys x)
  where
    by : (b : Bool) → p y ≡ b → cond b (Some y) (find p ys) ≡ Some x → (find p ys ≡ Some x → p x ≡ true) → p x ≡ true
    by true h f rest = ap p (sym (some_same y x f)) ∙ h
    by false h f rest = rest f

pub find_same : {K : Type 0} (p q : K → Bool) → ((x : K) → p x ≡ q x) → (xs : List K) → find p xs ≡ find q xs
find_same p q h xs = λ i. find (λ x. h x i) xs

pub find_alike : {K : Type 0} (p q : K → Bool) (xs : List K) → AllByRecursion (λ x. p x ≡ q x) xs → find p xs ≡ find q xs
find_alike p q [] a = refl
find_alike p q (x ∷ xs) a = λ i. cond (a.0 i) (Some x) (find_alike p q xs a.1 i)

pub find_none : {K : Type 0} (p : K → Bool) → ((x : K) → p x ≡ false) → (xs : List K) → find p xs ≡ None
find_none p h [] = refl
find_none p h (x ∷ xs) = ap (λ b. cond b (Some x) (find p xs)) (h x) ∙ find_none p h xs

-- The first of two answers that there is.
abbrev pub first_some : {K : Type 0} → Option K → Option K → Option K
first_some None o = o
first_some (Some x) o = Some x

pub find_join : {K : Type 0} (p : K → Bool) (xs ys : List K) → find p (xs ++ ys) ≡ first_some (find p xs) (find p ys)
find_join p [] ys = refl
find_join p (x ∷ xs) ys = by (p x) (find_join p xs ys)
  where
    by : (b : Bool) → find p (xs ++ ys) ≡ first_some (find p xs) (find p ys) → cond b (Some x) (find p (xs ++ ys)) ≡ first_some (cond b (Some x) (find p xs)) (find p ys)
    by true h = refl
    by false h = h

-- A filter that keeps all that passes finds the same.
pub find_filter : {K : Type 0} (p q : K → Bool) → ((x : K) → p x ≡ true → q x ≡ true) → (xs : List K) → find p (filter q xs) ≡ find p xs
find_filter p q h [] = refl
find_filter p q h (x ∷ xs) = by (q x) refl (p x) refl (find_filter p q h xs)
  where
    by : (b : Bool) → q x ≡ b → (c : Bool) → p x ≡ c → find p (filter q xs) ≡ find p xs → find p (cond b (x ∷ filter q xs) (filter q xs)) ≡ cond c (Some x) (find p xs)
    by true e true f r = ap (λ a. cond a (Some x) (find p (filter q xs))) f
    by true e false f r = ap (λ a. cond a (Some x) (find p (filter q xs))) f ∙ r
    by false e true f r = differ (sym e ∙ h x f)
    by false e false f r = r

-- The first item.
abbrev pub head : {K : Type 0} → List K → Option K
head [] = None
head (x ∷ xs) = Some x

-- ---- the first answer

-- The first answer of f along the list.
abbrev pub over : {A B : Type 0} → (A → Option B) → List A → Option B
over f [] = None
over f (x ∷ xs) = first_some (f x) (over f xs)

pub over_same : {A B : Type 0} (f g : A → Option B) → ((x : A) → f x ≡ g x) → (xs : List A) → over f xs ≡ over g xs
over_same f g h xs = λ i. over (λ x. h x i) xs

-- Leaving out what answers nothing.
pub over_filter : {A B : Type 0} (f : A → Option B) (p : A → Bool) → ((x : A) → p x ≡ false → f x ≡ None) → (xs : List A) → over f (filter p xs) ≡ over f xs
over_filter f p h [] = refl
over_filter f p h (x ∷ xs) = by (p x) refl (over_filter f p h xs)
  where
    by : (b : Bool) → p x ≡ b → over f (filter p xs) ≡ over f xs → over f (cond b (x ∷ filter p xs) (filter p xs)) ≡ first_some (f x) (over f xs)
    by true e r = ap (first_some (f x)) r
    by false e r = r ∙ sym (ap (λ o. first_some o (over f xs)) (h x e))

-- ---- those that pass

pub filter_as : {K : Type 0} (p q : K → Bool) → ((x : K) → p x ≡ q x) → (xs : List K) → filter p xs ≡ filter q xs
filter_as p q h xs = λ i. filter (λ x. h x i) xs

pub filter_alike : {K : Type 0} (p q : K → Bool) (xs : List K) → AllByRecursion (λ x. p x ≡ q x) xs → filter p xs ≡ filter q xs
filter_alike p q [] a = refl
filter_alike p q (x ∷ xs) a = λ i. cond (a.0 i) (x ∷ filter_alike p q xs a.1 i) (filter_alike p q xs a.1 i)

pub filter_all : {K : Type 0} (xs : List K) → filter (λ x. true) xs ≡ xs
filter_all [] = refl
filter_all (x ∷ xs) = ap (λ l. x ∷ l) (filter_all xs)

pub none_passes : {K : Type 0} (p : K → Bool) (xs : List K) → find p xs ≡ None → filter p xs ≡ []
none_passes p [] e = refl
none_passes p (x ∷ xs) e = by (p x) e (none_passes p xs)
  where
    by : (b : Bool) → cond b (Some x) (find p xs) ≡ None → (find p xs ≡ None → filter p xs ≡ []) → cond b (x ∷ filter p xs) (filter p xs) ≡ []
    by true f rest = absurd (none_some x (sym f))
    by false f rest = rest f

pub filter_within : {K : Type 0} (p q : K → Bool) → ((x : K) → p x ≡ true → q x ≡ true) → (xs : List K) → filter p xs ≡ filter p (filter q xs)
filter_within p q h [] = refl
filter_within p q h (x ∷ xs) = by (q x) refl (p x) refl (filter_within p q h xs)
  where
    by : (b : Bool) → q x ≡ b → (c : Bool) → p x ≡ c → filter p xs ≡ filter p (filter q xs) → cond c (x ∷ filter p xs) (filter p xs) ≡ filter p (cond b (x ∷ filter q xs) (filter q xs))
    by true e c f r = (λ i. cond c (x ∷ r i) (r i)) ∙ ap (λ b. cond b (x ∷ filter p (filter q xs)) (filter p (filter q xs))) (sym f)
    by false e true f r = differ (sym e ∙ h x f)
    by false e false f r = r
