-- Tests of two lists, one inside the other, in either order.
use Rattle.std.proofs.Common.{◌≡◌, ◌∙◌, ap, refl, sym, Bool, true, false, ◌||◌, List, [], ◌∷◌}
use Rattle.std.specs.List.{list_any}

regroup : (a b c d : Bool) → ((a || b) || (c || d)) ≡ ((a || c) || (b || d))
regroup true b c d = refl
regroup false true true d = refl
regroup false true false d = refl
regroup false false c d = refl

either : {X : Type 0} (p q : X → Bool) (xs : List X) → list_any (λ x. p x || q x) xs ≡ (list_any p xs || list_any q xs)
either p q [] = refl
either p q (x ∷ xs) = ap (λ b. (p x || q x) || b) (either p q xs) ∙ regroup (p x) (q x) (list_any p xs) (list_any q xs)

none : {X : Type 0} (xs : List X) → false ≡ list_any (λ x. false) xs
none [] = refl
none (x ∷ xs) = none xs

-- Some pair passes, whichever list is gone through first.
pub any_swapped : {X Y : Type 0} (m : X → Y → Bool) (xs : List X) (ys : List Y) → list_any (λ x. list_any (m x) ys) xs ≡ list_any (λ y. list_any (λ x. m x y) xs) ys
any_swapped m [] ys = none ys
any_swapped m (x ∷ xs) ys = ap (λ b. list_any (m x) ys || b) (any_swapped m xs ys) ∙ sym (either (m x) (λ y. list_any (λ z. m z y) xs) ys)
