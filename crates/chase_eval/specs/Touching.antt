-- For each relation the mappings with an atom of it on one side, by number.
use Rattle.std.specs.Prelude.{◌≡◌, ℕ, ◌==◌, Bool, false, List, Option, Some, None}
use Rattle.std.specs.Borrow.{Bor}
use Rattle.std.specs.List.{list_any, slice_get}
use Rattle.std.specs.declared.vec.Vec.{Vec}
use Rattle.std.specs.declared.alloc.Global.{Global}
use Rattle.def_chase.specs.Mappings.{Pattern, Rule}
use Rattle.chase_eval.specs.declared.touching.Touching.{Touching}

-- The mapping has an atom of the relation on this side.
abbrev pub stands : (Rule → List Pattern) → ℕ → Option Rule → Bool
stands side r None = false
stands side r (Some m) = list_any (λ a. a.relation == r) (side m)

-- The number is in the row.
abbrev pub is_among : List ℕ → ℕ → Bool
is_among row n = list_any (λ k. k == n) row

-- The row has the numbers of exactly the mappings with an atom of the relation on this side.
abbrev pub AreNumbers : (Rule → List Pattern) → List Rule → ℕ → List ℕ → Type 0
AreNumbers side ms r row = (n : ℕ) → is_among row n ≡ stands side r (slice_get ms n)

-- Each row has the numbers of exactly the mappings with an atom of its relation on this side.
abbrev pub AreRows : (Rule → List Pattern) → List Rule → List (Vec ℕ Global) → Type 0
AreRows side ms rows = (r : ℕ) (row : Vec ℕ Global) → slice_get rows r ≡ Some row → AreNumbers side ms r row.items

-- This holds for both sides.
abbrev pub IsTouching : List Rule → Touching → Type 0
IsTouching ms t = AreRows (λ m. m.left) ms t.left.items × AreRows (λ m. m.right) ms t.right.items

-- This holds if the numbers are given.
abbrev pub IsTouchingIf : List Rule → Option (Bor Touching) → Type 0
IsTouchingIf ms None = Unit {0}
IsTouchingIf ms (Some t) = IsTouching ms t.now
