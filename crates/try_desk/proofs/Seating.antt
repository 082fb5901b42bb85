-- The three seats of a desk as a table, and as a list.
use Rattle.std.proofs.Common.{◌≡◌, ◌∙◌, sym, ap, subst, arith, List, [], ◌∷◌, length, slice_index_or}
use Rattle.std.specs.List.{remove}
use Rattle.std.specs.Prelude.{All}

-- the three that are taken out of a list of three, from the last on, are that list
pub three_of : {A : Type 0} (xs ys zs : List A) (a b c : A) → length xs ≡ 3 → c ≡ slice_index_or xs 2 c → ys ≡ remove xs 2 → b ≡ slice_index_or ys 1 b → zs ≡ remove ys 1
    → a ≡ slice_index_or zs 0 a → a ∷ b ∷ c ∷ [] ≡ xs
three_of [] ys zs a b c long e f g h i = absurd (omega (arith, long))
three_of (x ∷ []) ys zs a b c long e f g h i = absurd (omega (arith, long))
three_of (x ∷ y ∷ []) ys zs a b c long e f g h i = absurd (omega (arith, long))
three_of (x ∷ y ∷ z ∷ []) ys zs a b c long e f g h i =
    let second : b ≡ y = g ∙ ap (λ (l : List _). slice_index_or l 1 b) f in
    let first : a ≡ x = i ∙ ap (λ (l : List _). slice_index_or l 0 a) (h ∙ ap (λ (l : List _). remove l 1) f) in
    λ k. first k ∷ second k ∷ e k ∷ []
three_of (x ∷ y ∷ z ∷ w ∷ more) ys zs a b c long e f g h i = absurd (omega (arith, long))

-- and what holds of all of the list holds of each of them
pub all_three : {A : Type 0} (P : A → Type 0) (xs : List A) (a b c : A) → a ∷ b ∷ c ∷ [] ≡ xs → All P xs → P a × P b × P c
all_three P xs a b c same all =
    let each : All P (a ∷ b ∷ c ∷ []) = subst (λ (l : List _). All P l) (sym same) all in
    (each 0 a (omega arith), each 1 a (omega arith), each 2 a (omega arith))
