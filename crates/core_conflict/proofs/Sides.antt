-- A search through both sides of a mapping.
use Rattle.std.proofs.Common.{◌≡◌, ◌∙◌, ap, sym, Bool, true, false, ◌||◌, List, ◌++◌}
use Rattle.std.specs.List.{list_any}
use Rattle.def_chase.specs.Mappings.{Pattern}
use Rattle.def_chase.proofs.Searches.{any_join}

-- An atom on the left passes.
pub found_left : (p : Pattern → Bool) (xs ys : List Pattern) (b : Bool) → b ≡ list_any p xs → b ≡ true → true ≡ list_any p (xs ++ ys)
found_left p xs ys b e t = sym (any_join p xs ys ∙ ap (λ x. x || list_any p ys) (sym e ∙ t))

-- None does, so those on the right tell.
pub found_right : (p : Pattern → Bool) (xs ys : List Pattern) (b c : Bool) → b ≡ list_any p xs → b ≡ false → c ≡ list_any p ys → c ≡ list_any p (xs ++ ys)
found_right p xs ys b c e f g = g ∙ sym (any_join p xs ys ∙ ap (λ x. x || list_any p ys) (sym e ∙ f))
