-- The answers of a query's kind: those that it may have over some repository.
use Rattle.std.specs.Prelude.{◌≡◌, Bool, true, List, Option, Some, None}
use Rattle.std.specs.List.{list_all, slice_get}
use Rattle.def_chase.specs.Values.{Fact}
use Rattle.def_chase.specs.Repository.{IsRepository}
use Rattle.def_chase.specs.Mappings.{Rule, Binding, image_under}
use Rattle.def_chase.specs.Specific.{more_specific}
use Rattle.def_chase.specs.Queries.{Query, Present, Violation, Specific, Occurs, Reply, Yes, No, Image, Nothing, Tuples, holds_null}

-- Yes or no.
abbrev pub IsYesOrNo : Reply → Type 0
IsYesOrNo Yes = Unit {0}
IsYesOrNo No = Unit {0}
IsYesOrNo (Image ts) = ⊥
IsYesOrNo Nothing = ⊥
IsYesOrNo (Tuples ts) = ⊥

-- The tuples are the left side of the mapping under this binding.
pub record IsLeftImage (m : Rule) (ts : List Fact) : Type 0 where
  pub binding : Binding
  pub is_image : image_under binding m.left ≡ ts

-- Nothing, or the image of the mapping's left side under some binding, if there is the mapping.
abbrev pub IsImageOf : Option Rule → Reply → Type 0
IsImageOf m Yes = ⊥
IsImageOf m No = ⊥
IsImageOf None (Image ts) = ⊥
IsImageOf (Some m) (Image ts) = IsLeftImage m ts
IsImageOf m Nothing = Unit {0}
IsImageOf m (Tuples ts) = ⊥

-- Distinct tuples in order that all pass the test.
pub record AreInOrder (p : Fact → Bool) (ts : List Fact) : Type 0 where
  pub in_order : IsRepository ts
  pub pass : list_all p ts ≡ true

abbrev pub IsListOf : (Fact → Bool) → Reply → Type 0
IsListOf p Yes = ⊥
IsListOf p No = ⊥
IsListOf p (Image ts) = ⊥
IsListOf p Nothing = ⊥
IsListOf p (Tuples ts) = AreInOrder p ts

-- The answer is of the query's kind: for `Present`, yes or no; for `Violation`, nothing or the image of the mapping's left side
-- under some binding; for `Specific`, more specific tuples in order; for `Occurs`, tuples that hold the null, in order.
abbrev pub IsOfKind : List Rule → Query → Reply → Type 0
IsOfKind ms (Present t) r = IsYesOrNo r
IsOfKind ms (Violation n) r = IsImageOf (slice_get ms n) r
IsOfKind ms (Specific t) r = IsListOf (λ s. more_specific s t) r
IsOfKind ms (Occurs u k) r = IsListOf (holds_null u k) r
