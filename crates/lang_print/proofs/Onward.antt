-- Lists gone over one item further, and items by their places.
use Rattle.std.proofs.Common.{◌≡◌, ◌∙◌, ℕ, zero, suc, ◌<◌, Bool, List, [], ◌∷◌, ◌++◌, length, map, take, Some, None, refl, ap, arith}
use Rattle.std.specs.Prelude.{fold, filter, flat_map, slice_get, slice_index_or}
use Rattle.std.proofs.lemmas.List.{map_push}
use Rattle.std.proofs.lemmas.List.Elements.{filter-append}
use Rattle.std.proofs.lemmas.List.Sums.{fold-append}
use Rattle.lang_schema.proofs.Noted.{fold_more}
use Rattle.def_language.specs.Words.{Word, comma}
use Rattle.def_language.specs.Grammar.{separated}

-- a fold over images, one item further
pub mapped_more : {A B C D : Type 0} (step : B → D → B) (g : C → D) (f : A → C) (start : B) (xs : List A) (x : A)
    → fold step start (map g (map f (xs ++ x ∷ []))) ≡ step (fold step start (map g (map f xs))) (g (f x))
mapped_more step g f start [] x = refl
mapped_more step g f start (y ∷ xs) x = mapped_more step g f (step start (g (f y))) xs x

-- a fold over the images of what passes a test
pub filtered_more : {A B C D : Type 0} (step : B → D → B) (g : C → D) (p : C → Bool) (f : A → C) (start : B) (xs : List A) (x : A)
    → fold step start (map g (filter p (map f (xs ++ x ∷ [])))) ≡ fold step (fold step start (map g (filter p (map f xs)))) (map g (filter p (f x ∷ [])))
filtered_more step g p f start xs x =
    ap (λ (ys : List _). fold step start (map g (filter p ys))) (map_push f xs x)
    ∙ ap (λ (ys : List _). fold step start (map g ys)) (filter-append p (map f xs) (f x ∷ []))
    ∙ ap (fold step start) (map_append g (filter p (map f xs)) (filter p (f x ∷ [])))
    ∙ fold-append step start (map g (filter p (map f xs))) (map g (filter p (f x ∷ [])))
  where
    map_append : {C D : Type 0} (g : C → D) (ys zs : List C) → map g (ys ++ zs) ≡ map g ys ++ map g zs
    map_append g [] zs = refl
    map_append g (y ∷ ys) zs = ap (λ (ws : List _). g y ∷ ws) (map_append g ys zs)

-- a fold over pieces of images
pub pieces_more : {A B C D : Type 0} (step : B → D → B) (g : C → List D) (f : A → C) (start : B) (xs : List A) (x : A)
    → fold step start (flat_map g (map f (xs ++ x ∷ []))) ≡ fold step (fold step start (flat_map g (map f xs))) (g (f x))
pieces_more step g f start xs x =
    ap (λ (ys : List _). fold step start (flat_map g ys)) (map_push f xs x) ∙ fold_more step g start (map f xs) (f x)

-- what a fold over images comes to one place further
pub placed_more : {A B C : Type 0} (step : B → C → B) (f : A → C) (start now next : B) (xs : List A) (i : ℕ) → i < length xs → now ≡ fold step start (map f (take i xs))
    → ((x : A) → slice_get xs i ≡ Some x → next ≡ step now (f x)) → next ≡ fold step start (map f (take (suc i) xs))
placed_more step f start now next [] i lt e h = absurd (omega arith)
placed_more step f start now next (x ∷ xs) zero lt e h = h x refl ∙ ap (λ (b : _). step b (f x)) e
placed_more step f start now next (x ∷ xs) (suc i) lt e h = placed_more step f (step start (f x)) now next xs i (omega arith) e h

-- the image of what stands at a place
pub image_at : {A B : Type 0} (f : A → B) (xs : List A) (i : ℕ) (x : A) (d : B) → slice_get xs i ≡ Some x → slice_index_or (map f xs) i d ≡ f x
image_at f [] i x d at = cc
image_at f (y ∷ xs) zero x d at = cc
image_at f (y ∷ xs) (suc i) x d at = image_at f xs i x d at

-- what stands for the image where there is nothing
pub no_image_at : {A B : Type 0} (f : A → B) (xs : List A) (i : ℕ) (d : B) → slice_get xs i ≡ None → slice_index_or (map f xs) i d ≡ d
no_image_at f [] i d at = refl
no_image_at f (y ∷ xs) zero d at = cc
no_image_at f (y ∷ xs) (suc i) d at = no_image_at f xs i d at

-- images with commas between
pub separated_map : {A B : Type 0} (words : B → List Word) (f : A → B) (xs : List A) → separated (λ x. words (f x)) xs ≡ separated words (map f xs)
separated_map words f [] = refl
separated_map words f (x ∷ []) = refl
separated_map words f (x ∷ y ∷ xs) = ap (λ (ws : List Word). words (f x) ++ comma ∷ ws) (separated_map words f (y ∷ xs))
