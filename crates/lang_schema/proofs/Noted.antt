-- Names, each once, as a set in order keeps them.
use Rattle.std.proofs.Common.{◌≡◌, ◌∙◌, ap, Bool, true, false, List, [], ◌∷◌, ◌++◌, map, refl, sym}
use Rattle.std.specs.Prelude.{fold, flat_map, if◌then◌else◌}
use Rattle.std.specs.List.{list_any}
use Rattle.std.proofs.lemmas.List.{map_push, append-nil}
use Rattle.std.proofs.lemmas.List.Sums.{fold-append}
use Rattle.def_language.specs.Names.{Name, same_name, with_new}

any_map : {A B : Type 0} (f : A → B) (p : B → Bool) (xs : List A) → list_any (λ x. p (f x)) xs ≡ list_any p (map f xs)
any_map f p [] = refl
any_map f p (x ∷ xs) = rw (any_map f p xs) refl

-- a name goes last, unless it is there
pub noted : {K : Type 0} (f : K → Name) (keys : List K) (k : K) → map f (if list_any (λ x. same_name (f k) (f x)) keys then keys else keys ++ k ∷ []) ≡ with_new same_name (map f keys) (f k)
noted f keys k = rw (any_map f (same_name (f k)) keys) (by (list_any (same_name (f k)) (map f keys))) where
  by : (b : Bool) → map f (if b then keys else keys ++ k ∷ []) ≡ (if b then map f keys else map f keys ++ f k ∷ [])
  by true = refl
  by false = map_push f keys k

-- a fold over pieces, one piece on
pub fold_more : {A B C : Type 0} (step : B → C → B) (pieces : A → List C) (start : B) (xs : List A) (x : A) → fold step start (flat_map pieces (xs ++ x ∷ [])) ≡ fold step (fold step start (flat_map pieces xs)) (pieces x)
fold_more step pieces start [] x = ap (fold step start) (append-nil (pieces x))
fold_more step pieces start (y ∷ xs) x =
    fold-append step start (pieces y) (flat_map pieces (xs ++ x ∷ []))
    ∙ fold_more step pieces (fold step start (pieces y)) xs x
    ∙ ap (λ (b : _). fold step b (pieces x)) (sym (fold-append step start (pieces y) (flat_map pieces xs)))
