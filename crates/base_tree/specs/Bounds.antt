-- Facts about where keys lie, known before they are looked at.
use Rattle.std.specs.Prelude.{◌≡◌, true, false, List}
use Rattle.std.specs.List.{AllByRecursion}
use Rattle.std.specs.Ordering.{is_lt, is_gt}
use Rattle.std.specs.declared.cmp.Ordering.{Ordering}
use Rattle.base_tree.specs.declared.bounds.Bounds.{Bounds}

-- A key that lies at this place keeps within the bounds.
pub record KeepsWithin (b : Bounds) (place : Ordering) : Type 0 where
  pub low : b.low ≡ true → is_lt place ≡ false
  pub high : b.high ≡ true → is_gt place ≡ false

-- The keys of all entries keep within the bounds.
abbrev pub AreWithin : {K V : Type 0} → Bounds → (K → Ordering) → List (K × V) → Type 0
AreWithin b place es = AllByRecursion (λ e. KeepsWithin b (place e.0)) es
