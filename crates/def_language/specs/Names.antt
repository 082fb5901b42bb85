-- Names and their places in a list.
use Rattle.std.specs.Prelude.{ℕ, Bool, List, [], ◌∷◌, ◌++◌, fold, nat_eq, if◌then◌else◌}
use Rattle.std.specs.List.{list_any, position_or_len}
use Rattle.std.specs.Cmp.Lexicographic.{pointwise}

-- a name, by its bytes
abbrev pub Name : Type 0
Name = List ℕ

abbrev pub same_name : Name → Name → Bool
same_name m n = pointwise nat_eq m n

-- whether the name is one of the list
abbrev pub is_one_of : List Name → Name → Bool
is_one_of names n = list_any (same_name n) names

-- the first place of the name, or the length of the list if it is not there
abbrev pub place_of : List Name → Name → ℕ
place_of names n = position_or_len (same_name n) names

-- the list, with the item added at its end unless it is there
abbrev pub with_new : {A : Type 0} → (A → A → Bool) → List A → A → List A
with_new same xs x = if list_any (same x) xs then xs else xs ++ x ∷ []

-- each item once, in the order of first occurrence
abbrev pub firsts : {A : Type 0} → (A → A → Bool) → List A → List A
firsts same xs = fold (with_new same) [] xs
