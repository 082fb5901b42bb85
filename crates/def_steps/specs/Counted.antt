-- The violations that an update has caused, defined by its writes and by the bindings of the mapping.
use Rattle.std.specs.Prelude.{◌≡◌, ◌≢◌, ℕ, false, true, List, ◌∷◌, ◌++◌, Option, Some, None, slice_get}
use Rattle.std.specs.Bool.{Decides}
use Rattle.std.specs.List.{AllByRecursion}
use Rattle.std.specs.Ordering.{is_gt}
use Rattle.std.specs.Cmp.Lexicographic.{slice_cmp}
use Rattle.def_chase.specs.Values.{Fact, fact_cmp}
use Rattle.def_chase.specs.Repository.{Change, Insert, Delete, IsRepository}
use Rattle.def_chase.specs.Mappings.{Pattern, Rule, Binding, fact_under, image_under, all_in, IsViolation}
use Rattle.def_chase.specs.Violations.{Scope, Every, Caused, Forward, Backward, violates, first_violation}

-- The tuple that is written.
abbrev pub tuple_of : Change → Fact
tuple_of (Insert t) = t
tuple_of (Delete t) = t

-- The last write of the tuple inserts it.
pub record IsInserted (own : List Change) (t : Fact) : Type 0 where
  pub before : List Change
  pub after : List Change
  pub there : own ≡ before ++ Insert t ∷ after
  pub last : AllByRecursion (λ w. tuple_of w ≢ t) after

-- Some tuple of the image was inserted by the update's last write of it.
pub record IsCausedForward (own : List Change) (image : List Fact) : Type 0 where
  pub place : ℕ
  pub tuple : Fact
  pub there : slice_get image place ≡ Some tuple
  pub inserted : IsInserted own tuple

-- Some binding with this image makes a right atom a tuple that the update has deleted: without the deletion, that binding might
-- have met the right side.
pub record IsCausedBackward (own : List Change) (m : Rule) (image : List Fact) : Type 0 where
  pub binding : Binding
  pub is_image : image_under binding m.left ≡ image
  pub atom : Pattern
  pub place : ℕ
  pub on_the_right : slice_get m.right place ≡ Some atom
  pub at : ℕ
  pub deleted : slice_get own at ≡ Some (Delete (fact_under binding atom))

-- The violation with this image counts in the scope.
abbrev pub IsCounted : Scope → List Change → Rule → List Fact → Type 0
IsCounted Every own m image = Unit {0}
IsCounted (Caused Forward) own m image = IsCausedForward own image
IsCounted (Caused Backward) own m image = IsCausedBackward own m image

-- The tuples are the image of a violation in D that counts in the scope.
pub record IsViolationIn (scope : Scope) (own : List Change) (m : Rule) (D image : List Fact) : Type 0 where
  pub violation : IsViolation m D image
  pub counted : IsCounted scope own m image

-- For lists of tuples of D, the test `violates` decides whether they are the image of a violation that counts.
abbrev pub ScopesDecide : Type 0
ScopesDecide =
    (scope : Scope) (own : List Change) (m : Rule) (D image : List Fact) → all_in D image ≡ true
    → Decides (violates scope own m D image) (IsViolationIn scope own m D image)

-- The violation counts in the scope, and no violation that counts has a lesser image, compared tuple by tuple.
pub record IsFirstIn (scope : Scope) (own : List Change) (m : Rule) (D image : List Fact) : Type 0 where
  pub counts : IsViolationIn scope own m D image
  pub least : (other : List Fact) → IsViolationIn scope own m D other → is_gt (slice_cmp fact_cmp image other) ≡ false

-- The violation that is found is the first one; if none is found, none counts.
pub record FirstInScope : Type 0 where
  pub found : (scope : Scope) (own : List Change) (m : Rule) (D image : List Fact) → IsRepository D
      → first_violation scope own m D ≡ Some image → IsFirstIn scope own m D image
  pub none : (scope : Scope) (own : List Change) (m : Rule) (D : List Fact)
      → first_violation scope own m D ≡ None → (image : List Fact) → IsViolationIn scope own m D image → ⊥
