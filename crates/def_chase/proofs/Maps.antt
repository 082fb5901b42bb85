-- Maps of lists and options go through the words of lists.
use Rattle.std.proofs.Common.{◌≡◌, ℕ, zero, suc, ap, refl, ◌∙◌, List, [], ◌∷◌, ◌++◌, map, Bool, true, false, ◌||◌, ◌&&◌, cond, length, Option, Some, None}
use Rattle.std.specs.List.{list_any, list_all, slice_get}
use Rattle.std.specs.Option.{option_map}
use Rattle.std.specs.Prelude.{find, is_some, filter}

pub find_map : {A B : Type 0} (g : A → B) (p : B → Bool) (q : A → Bool) → ((x : A) → p (g x) ≡ q x) → (xs : List A) → find p (map g xs) ≡ option_map g (find q xs)
find_map g p q h [] = refl
find_map g p q h (x ∷ xs) = (λ i. cond (h x i) (Some (g x)) (find_map g p q h xs i)) ∙ by (q x)
  where
    by : (b : Bool) → cond b (Some (g x)) (option_map g (find q xs)) ≡ option_map g (cond b (Some x) (find q xs))
    by true = refl
    by false = refl

pub any_map : {A B : Type 0} (g : A → B) (p : B → Bool) (q : A → Bool) → ((x : A) → p (g x) ≡ q x) → (xs : List A) → list_any p (map g xs) ≡ list_any q xs
any_map g p q h [] = refl
any_map g p q h (x ∷ xs) = λ i. h x i || any_map g p q h xs i

pub all_map : {A B : Type 0} (g : A → B) (p : B → Bool) (q : A → Bool) → ((x : A) → p (g x) ≡ q x) → (xs : List A) → list_all p (map g xs) ≡ list_all q xs
all_map g p q h [] = refl
all_map g p q h (x ∷ xs) = λ i. h x i && all_map g p q h xs i

pub length_map : {A B : Type 0} (g : A → B) (xs : List A) → length (map g xs) ≡ length xs
length_map g [] = refl
length_map g (x ∷ xs) = ap suc (length_map g xs)

pub map_join : {A B : Type 0} (g : A → B) (xs ys : List A) → map g (xs ++ ys) ≡ map g xs ++ map g ys
map_join g [] ys = refl
map_join g (x ∷ xs) ys = ap (λ l. g x ∷ l) (map_join g xs ys)

pub some_map : {A B : Type 0} (g : A → B) (o : Option A) → is_some (option_map g o) ≡ is_some o
some_map g None = refl
some_map g (Some x) = refl

pub map_map : {A B C D : Type 0} (g : A → B) (h : B → D) (k : A → C) (l : C → D) → ((x : A) → h (g x) ≡ l (k x)) → (xs : List A) → map h (map g xs) ≡ map l (map k xs)
map_map g h k l e [] = refl
map_map g h k l e (x ∷ xs) = λ i. e x i ∷ map_map g h k l e xs i

pub filter_map : {A B : Type 0} (g : A → B) (p : B → Bool) (q : A → Bool) → ((x : A) → p (g x) ≡ q x) → (xs : List A) → filter p (map g xs) ≡ map g (filter q xs)
filter_map g p q h [] = refl
filter_map g p q h (x ∷ xs) = (λ i. cond (h x i) (g x ∷ filter_map g p q h xs i) (filter_map g p q h xs i)) ∙ by (q x)
  where
    by : (b : Bool) → cond b (g x ∷ map g (filter q xs)) (map g (filter q xs)) ≡ map g (cond b (x ∷ filter q xs) (filter q xs))
    by true = refl
    by false = refl

pub cond_map : {A B : Type 0} (g : A → B) (b : Bool) (x y : A) → cond b (g x) (g y) ≡ g (cond b x y)
cond_map g true x y = refl
cond_map g false x y = refl

pub get_map : {A B : Type 0} (g : A → B) (xs : List A) (i : ℕ) → slice_get (map g xs) i ≡ option_map g (slice_get xs i)
get_map g [] i = refl
get_map g (x ∷ xs) zero = refl
get_map g (x ∷ xs) (suc i) = get_map g xs i
