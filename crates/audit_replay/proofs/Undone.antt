-- A write, and the one that takes it back.
use Rattle.std.proofs.Common.{◌≡◌, ◌∙◌, ap, refl, sym, List, [], ◌∷◌, ◌++◌, map, Bool, true, false, not, ◌||◌, ◌&&◌}
use Rattle.std.specs.Prelude.{reverse}
use Rattle.std.proofs.lemmas.List.{map-append, reverse-append}
use Rattle.base_types.specs.Meanings.{change_of}
use Rattle.base_types.specs.declared.updates.Write.{Write}
use Rattle.def_chase.specs.Values.{Fact, same_fact}
use Rattle.def_chase.specs.Repository.{Change, Insert, Delete, IsRepository, has, change, apply}
use Rattle.def_chase.proofs.Sets.{has-insert, has-delete, same_exact, same_repository, insert_in_order, filter_in_order}

and_true : (b : Bool) → (b && true) ≡ b
and_true true = refl
and_true false = refl

and_false : (b : Bool) → (b && false) ≡ false
and_false true = refl
and_false false = refl

deleted_in_order : (D : List Fact) (t : Fact) → IsRepository D → IsRepository (change D (Delete t))
deleted_in_order D t s = filter_in_order (λ u. not (same_fact t u)) D s

-- where the tuple u is the tuple t or another one
there : (D : List Fact) (t u : Fact) (b : Bool) → has D t ≡ b → same_fact u t ≡ true → has D u ≡ b
there D t u b h e = ap (has D) (same_exact u t e) ∙ h

kept : (D : List Fact) (t u : Fact) → has D t ≡ true → (b : Bool) → same_fact u t ≡ b → (b || has D u) ≡ has D u
kept D t u h true e = sym (there D t u true h e)
kept D t u h false e = refl

-- An insertion of what is there changes nothing.
pub inserted_again : (D : List Fact) (t : Fact) → IsRepository D → has D t ≡ true → change D (Insert t) ≡ D
inserted_again D t s h =
    same_repository (change D (Insert t)) D (insert_in_order D t s) s (λ u. has-insert D t u ∙ kept D t u h (same_fact u t) refl)

missed : (D : List Fact) (t u : Fact) → has D t ≡ false → (b : Bool) → same_fact u t ≡ b → (has D u && not b) ≡ has D u
missed D t u h true e = and_false (has D u) ∙ sym (there D t u false h e)
missed D t u h false e = and_true (has D u)

-- A deletion of what is not there changes nothing.
pub deleted_again : (D : List Fact) (t : Fact) → IsRepository D → has D t ≡ false → change D (Delete t) ≡ D
deleted_again D t s h =
    same_repository (change D (Delete t)) D (deleted_in_order D t s) s (λ u. has-delete D t u ∙ missed D t u h (same_fact u t) refl)

gone : (D : List Fact) (t u : Fact) → has D t ≡ false → (b : Bool) → same_fact u t ≡ b → ((b || has D u) && not b) ≡ has D u
gone D t u h true e = sym (there D t u false h e)
gone D t u h false e = and_true (has D u)

-- An insertion of what was not there is taken back by its deletion.
pub insertion_undone : (D : List Fact) (t : Fact) → IsRepository D → has D t ≡ false → change (change D (Insert t)) (Delete t) ≡ D
insertion_undone D t s h =
    same_repository (change (change D (Insert t)) (Delete t)) D (deleted_in_order (change D (Insert t)) t (insert_in_order D t s)) s
    (λ u. has-delete (change D (Insert t)) t u ∙ (ap (λ b. b && not (same_fact u t)) (has-insert D t u) ∙ gone D t u h (same_fact u t) refl))

back : (D : List Fact) (t u : Fact) → has D t ≡ true → (b : Bool) → same_fact u t ≡ b → (b || (has D u && not b)) ≡ has D u
back D t u h true e = sym (there D t u true h e)
back D t u h false e = and_true (has D u)

-- A deletion of what was there is taken back by its insertion.
pub deletion_undone : (D : List Fact) (t : Fact) → IsRepository D → has D t ≡ true → change (change D (Delete t)) (Insert t) ≡ D
deletion_undone D t s h =
    same_repository (change (change D (Delete t)) (Insert t)) D (insert_in_order (change D (Delete t)) t (deleted_in_order D t s)) s
    (λ u. has-insert (change D (Delete t)) t u ∙ (ap (λ b. same_fact u t || b) (has-delete D t u) ∙ back D t u h (same_fact u t) refl))

-- ---- lists of writes that take back

-- The writes v lead from E to D, and u first from F to E.
pub led : (D F : List Fact) (ws vs : List Write) (u : Write) → vs ≡ ws ++ u ∷ [] → change F (change_of u) ≡ D
    → apply F (reverse (map change_of vs)) ≡ apply D (reverse (map change_of ws))
led D F ws vs u e b =
    ap (λ (l : List Write). apply F (reverse (map change_of l))) e
    ∙ (ap (λ (l : List Change). apply F (reverse l)) (map-append change_of ws (u ∷ []))
    ∙ (ap (apply F) (reverse-append (map change_of ws) (change_of u ∷ []))
    ∙ ap (λ (E : List Fact). apply E (reverse (map change_of ws))) b))

not_true : (h : Bool) → not h ≡ true → h ≡ false
not_true true e = sym e
not_true false e = refl

not_false : (h : Bool) → not h ≡ false → h ≡ true
not_false true e = refl
not_false false e = sym e

-- The new tuple t was put in, and a copy of it is to be deleted.
pub inserted_back : (D F : List Fact) (ws vs : List Write) (t s : Fact) (b : Bool) (u : Write)
    → IsRepository D → b ≡ not (has D t) → b ≡ true → F ≡ change D (Insert t) → vs ≡ ws ++ u ∷ [] → change_of u ≡ Delete s → s ≡ t
    → apply F (reverse (map change_of vs)) ≡ apply D (reverse (map change_of ws))
inserted_back D F ws vs t s b u d n y f e w q =
    led D F ws vs u e ((λ i. change (f i) ((w ∙ ap Delete q) i)) ∙ insertion_undone D t d (not_true (has D t) (sym n ∙ y)))

-- The tuple t was there, so nothing was put in.
pub inserted_nowhere : (D F : List Fact) (ws : List Write) (t : Fact) (b : Bool)
    → IsRepository D → b ≡ not (has D t) → b ≡ false → F ≡ change D (Insert t)
    → apply F (reverse (map change_of ws)) ≡ apply D (reverse (map change_of ws))
inserted_nowhere D F ws t b d n y f =
    ap (λ (E : List Fact). apply E (reverse (map change_of ws))) (f ∙ inserted_again D t d (not_false (has D t) (sym n ∙ y)))

-- The tuple t was taken away, and a copy of it is to be inserted.
pub deleted_back : (D F : List Fact) (ws vs : List Write) (t s : Fact) (b : Bool) (u : Write)
    → IsRepository D → b ≡ has D t → b ≡ true → F ≡ change D (Delete t) → vs ≡ ws ++ u ∷ [] → change_of u ≡ Insert s → s ≡ t
    → apply F (reverse (map change_of vs)) ≡ apply D (reverse (map change_of ws))
deleted_back D F ws vs t s b u d n y f e w q =
    led D F ws vs u e ((λ i. change (f i) ((w ∙ ap Insert q) i)) ∙ deletion_undone D t d (sym n ∙ y))

-- The tuple t was not there, so nothing was taken away.
pub deleted_nowhere : (D F : List Fact) (ws : List Write) (t : Fact) (b : Bool)
    → IsRepository D → b ≡ has D t → b ≡ false → F ≡ change D (Delete t)
    → apply F (reverse (map change_of ws)) ≡ apply D (reverse (map change_of ws))
deleted_nowhere D F ws t b d n y f =
    ap (λ (E : List Fact). apply E (reverse (map change_of ws))) (f ∙ deleted_again D t d (sym n ∙ y))
