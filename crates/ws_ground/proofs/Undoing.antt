-- A write, and the one that takes it back.
use Rattle.std.proofs.Common.{◌≡◌, ◌∙◌, ap, refl, sym, List, Bool, true, false, not, ◌||◌, ◌&&◌}
use Rattle.def_chase.specs.Values.{Fact, same_fact}
use Rattle.def_chase.specs.Repository.{Insert, Delete, IsRepository, has, change}
use Rattle.def_chase.proofs.Sets.{has-insert, has-delete, same_exact, same_repository, insert_in_order, filter_in_order}

and_true : (b : Bool) → (b && true) ≡ b
and_true true = refl
and_true false = refl

and_false : (b : Bool) → (b && false) ≡ false
and_false true = refl
and_false false = refl

deleted_in_order : (D : List Fact) (t : Fact) → IsRepository D → IsRepository (change D (Delete t))
deleted_in_order D t s = filter_in_order (λ u. not (same_fact t u)) D s

-- where the tuple u is the tuple t or another one
there : (D : List Fact) (t u : Fact) (b : Bool) → has D t ≡ b → same_fact u t ≡ true → has D u ≡ b
there D t u b h e = ap (has D) (same_exact u t e) ∙ h

kept : (D : List Fact) (t u : Fact) → has D t ≡ true → (b : Bool) → same_fact u t ≡ b → (b || has D u) ≡ has D u
kept D t u h true e = sym (there D t u true h e)
kept D t u h false e = refl

-- An insertion of what is there changes nothing.
pub inserted_again : (D : List Fact) (t : Fact) → IsRepository D → has D t ≡ true → change D (Insert t) ≡ D
inserted_again D t s h =
    same_repository (change D (Insert t)) D (insert_in_order D t s) s (λ u. has-insert D t u ∙ kept D t u h (same_fact u t) refl)

missed : (D : List Fact) (t u : Fact) → has D t ≡ false → (b : Bool) → same_fact u t ≡ b → (has D u && not b) ≡ has D u
missed D t u h true e = and_false (has D u) ∙ sym (there D t u false h e)
missed D t u h false e = and_true (has D u)

-- A deletion of what is not there changes nothing.
pub deleted_again : (D : List Fact) (t : Fact) → IsRepository D → has D t ≡ false → change D (Delete t) ≡ D
deleted_again D t s h =
    same_repository (change D (Delete t)) D (deleted_in_order D t s) s (λ u. has-delete D t u ∙ missed D t u h (same_fact u t) refl)

gone : (D : List Fact) (t u : Fact) → has D t ≡ false → (b : Bool) → same_fact u t ≡ b → ((b || has D u) && not b) ≡ has D u
gone D t u h true e = sym (there D t u false h e)
gone D t u h false e = and_true (has D u)

-- An insertion of what was not there is taken back by its deletion.
pub insertion_undone : (D : List Fact) (t : Fact) → IsRepository D → has D t ≡ false → change (change D (Insert t)) (Delete t) ≡ D
insertion_undone D t s h =
    same_repository (change (change D (Insert t)) (Delete t)) D (deleted_in_order (change D (Insert t)) t (insert_in_order D t s)) s
    (λ u. has-delete (change D (Insert t)) t u ∙ (ap (λ b. b && not (same_fact u t)) (has-insert D t u) ∙ gone D t u h (same_fact u t) refl))

back : (D : List Fact) (t u : Fact) → has D t ≡ true → (b : Bool) → same_fact u t ≡ b → (b || (has D u && not b)) ≡ has D u
back D t u h true e = sym (there D t u true h e)
back D t u h false e = and_true (has D u)

-- A deletion of what was there is taken back by its insertion.
pub deletion_undone : (D : List Fact) (t : Fact) → IsRepository D → has D t ≡ true → change (change D (Delete t)) (Insert t) ≡ D
deletion_undone D t s h =
    same_repository (change (change D (Delete t)) (Insert t)) D (insert_in_order (change D (Delete t)) t (deleted_in_order D t s)) s
    (λ u. has-insert (change D (Delete t)) t u ∙ (ap (λ b. same_fact u t || b) (has-delete D t u) ∙ back D t u h (same_fact u t) refl))
