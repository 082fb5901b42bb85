-- The numbers of the mappings with an atom of a relation, once all were gone over.
use Rattle.std.proofs.Common.{◌≡◌, ◌∙◌, ℕ, ◌<◌, ◌≤◌, ap, refl, sym, List, [], ◌∷◌, Option, Some, None}
use Rattle.std.specs.List.{slice_get}
use Rattle.std.specs.Borrow.{Bor}
use Rattle.std.specs.Option.{option_copied}
use Rattle.std.specs.Prelude.{IfSome}
use Rattle.std.specs.declared.alloc.Global.{Global}
use Rattle.std.specs.declared.vec.Vec.{Vec}
use Rattle.def_chase.specs.Mappings.{Rule}
use Rattle.def_chase.specs.Repository.{Change, Insert, Delete}
use Rattle.def_chase.specs.Values.{Fact}
use Rattle.chase_eval.specs.Touching.{stands, is_among, IsTouching}
use Rattle.chase_eval.specs.Watched.{touches}
use Rattle.chase_eval.specs.declared.touching.Touching.{Touching}

-- ---- what a write touches

-- The row of an inserted tuple's relation on the left.
pub inserted : (o : Option (Bor (Vec ℕ Global))) (t : Touching) (w : Change) (f : Fact) → w ≡ Insert f → option_copied o ≡ slice_get t.left.items f.relation
    → IfSome o (λ row. (ms : List Rule) (n : ℕ) → IsTouching ms t → is_among row.now.items n ≡ touches w (slice_get ms n))
inserted None t w f e g = tt
inserted (Some row) t w f e g = λ ms n h. h.0 f.relation row.now (sym g) n ∙ by (slice_get ms n) ∙ ap (λ x. touches x (slice_get ms n)) (sym e)
  where
    by : (m : Option Rule) → stands (λ m. m.left) f.relation m ≡ touches (Insert f) m
    by None = refl
    by (Some m) = refl

-- The row of a deleted tuple's relation on the right.
pub deleted : (o : Option (Bor (Vec ℕ Global))) (t : Touching) (w : Change) (f : Fact) → w ≡ Delete f → option_copied o ≡ slice_get t.right.items f.relation
    → IfSome o (λ row. (ms : List Rule) (n : ℕ) → IsTouching ms t → is_among row.now.items n ≡ touches w (slice_get ms n))
deleted None t w f e g = tt
deleted (Some row) t w f e g = λ ms n h. h.1 f.relation row.now (sym g) n ∙ by (slice_get ms n) ∙ ap (λ x. touches x (slice_get ms n)) (sym e)
  where
    by : (m : Option Rule) → stands (λ m. m.right) f.relation m ≡ touches (Delete f) m
    by None = refl
    by (Some m) = refl
