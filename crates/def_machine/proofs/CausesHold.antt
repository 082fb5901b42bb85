-- Each cause of the conflict set and of the cascade holds of the updates.
use Rattle.std.proofs.Common.{◌≡◌, ℕ, zero, suc, ◌<◌, ◌≤◌, ◌+◌, ap, sym, refl, subst, ◌∙◌, List, [], ◌∷◌, ◌++◌, take, drop, append-nil, Bool, true, false, not, ◌&&◌, ◌||◌, arith, Some, None}
use Rattle.std.specs.Prelude.{if◌then◌else◌, Option, is_some, slice_get, option_map, option_to_list}
use Rattle.std.specs.List.{AllByRecursion, list_any, list_all}
use Rattle.std.proofs.lemmas.Bool.{and_parts, not-true, both_ways}
use Rattle.std.proofs.lemmas.Option.{same_Some, none-some}
use Rattle.def_machine.specs.Machine.{Machine, Laws}
use Rattle.def_machine.specs.Updates.{Read, Update, Deps, Precise, Coarse, trail, below}
use Rattle.def_machine.specs.Reads.{is_valid, value_now, all_valid, first_that, Changed}
use Rattle.def_machine.specs.Standings.{is_nil}
use Rattle.def_machine.specs.Cascade.{Cause, Conflict, Depends, readers, Member, reads_of, read_depends, writer_for, is_live, conflict_of, conflicts, cascade, has_number, with_member, without_member}
use Rattle.def_machine.specs.CauseLaw.{IsFirst, trails_without, below_without, members_of, IsWriter, Holds}
use Rattle.def_machine.proofs.Carried.{below_more}
use Rattle.def_machine.proofs.Settling.{Apart, apart_kept, apart_more, avoids_all_from}
use Rattle.def_machine.proofs.Walks.{joining, number_here, number_later}
use Rattle.def_machine.proofs.Causes.{all_join, Found, first_is, writer_is, head_of, rest_of, trails_more, members_more}

all_at : {A : Type 0} (p : A → Bool) (xs : List A) (i : ℕ) (x : A) → list_all p xs ≡ true → slice_get xs i ≡ Some x → p x ≡ true
all_at p [] i x h f = absurd (none-some x f)
all_at p (y ∷ xs) zero x h f = ap p (sym (same_Some _ _ f)) ∙ (and_parts _ _ h).0
all_at p (y ∷ xs) (suc i) x h f = all_at p xs i x (and_parts _ _ h).1 f

module _ (M : Machine) (L : Laws M) where
  live_present : (c n : ℕ) (u : Update M) → is_live M c n u ≡ true → u.withdrawn ≡ false
  live_present c n u h = not-true _ (and_parts _ _ h).1

  -- a read that depends on the members mentions what one of them wrote, where it is valid with their trails
  must_mention : (deps : Deps) (op : M.Operation) (own : List M.Write) (ms : List (Member M)) (E N : M.Repository) (r : Read M) → Apart M ms E N → is_valid M op E own r ≡ true → read_depends M deps op N own ms r ≡ true → list_any (λ m. reads_of M r m.trail) ms ≡ true
  must_mention Coarse op own ms E N r a v h = h
  must_mention Precise op own ms E N r a v h = by (list_any (λ m. reads_of M r m.trail) ms) refl
    where
      by : (b : Bool) → list_any (λ m. reads_of M r m.trail) ms ≡ b → list_any (λ m. reads_of M r m.trail) ms ≡ true
      by true e = e
      by false e =
          let same : is_valid M op N own r ≡ true = ap (λ x. M.same r.answer x) (sym (L.alike_value op r.query E N _ (a.alike (M.mentions r.query) (avoids_all_from M r ms e)))) ∙ v in
          absurd (both_ways _ (not-true _ h) same)

  module _ (deps : Deps) (c j : ℕ) (D : M.Repository) (ns : List ℕ) (ws : List (Update M)) where
    abbrev pub AllHold : List (Cause M) → Type 0
    AllHold cs = AllByRecursion (Holds M deps D j ns ws) cs

    one_conflict : (k n : ℕ) (u : Update M) → n ≡ suc k → j < n → slice_get ws k ≡ Some u → AllHold (option_to_list (conflict_of M c j (below M D ws k) n u))
    one_conflict k n u e l h = by (is_live M c n u) refl (first_that invalid u.log) refl
      where
        invalid : Read M → Bool
        invalid r = not (is_valid M u.operation (below M D ws k) (M.own u.state) r)

        by : (b : Bool) → is_live M c n u ≡ b → (o : Option (ℕ × Read M)) → first_that invalid u.log ≡ o
            → AllHold (option_to_list (if b then option_map (λ (x : Changed M). Conflict n x.read j x.old x.new) (option_map (λ (t : ℕ × Read M). record { read = t.0; old = t.1.answer; new = value_now M u.operation (below M D ws k) (M.own u.state) t.1 }) o) else None))
        by false g o f = tt
        by true g None f = tt
        by true g (Some t) f =
            let F : Found invalid u.log t = first_is invalid u.log t f in (
              record {
                place = k;
                update = u;
                is_reader = e;
                there = h;
                present = live_present c n u g;
                above = l;
                is_writer = refl;
                at = F.place;
                read = t.1;
                is_number = F.is_place;
                first = F.first;
                was = refl;
                is = refl;
              },
              tt,
            )

    pub conflicts_hold : (k n : ℕ) (us : List (Update M)) → n ≡ suc k → j < n → drop k ws ≡ us → AllHold (conflicts M c j (below M D ws k) n us)
    conflicts_hold k n [] e l h = tt
    conflicts_hold k n (u ∷ us) e l h =
        all_join (Holds M deps D j ns ws) (option_to_list (conflict_of M c j (below M D ws k) n u)) (conflicts M c j (M.apply (below M D ws k) (trail M u)) (suc n) us)
        (one_conflict k n u e l (head_of k ws u us h))
        (subst (λ E. AllHold (conflicts M c j E (suc n) us)) (below_more M L D ws k u (head_of k ws u us h)) (conflicts_hold (suc k) (suc n) us (ap suc e) (omega (arith, l)) (rest_of k ws u us h)))

    one_dependence : (fs : List ℕ) (k n : ℕ) (E N : M.Repository) (ms : List (Member M)) (u : Update M) → n ≡ suc k → j < n → slice_get ws k ≡ Some u → N ≡ below_without M D ns ws k → ms ≡ members_of M ns 1 (take k ws) → Apart M ms E N
        → (has_number fs n ≡ false → u.withdrawn ≡ false → all_valid M E u ≡ true) → AllHold (option_to_list (joining M deps c j fs N ms n u))
    one_dependence fs k n E N ms u e l h x y a v = by (has_number fs n) (is_live M c n u && not (is_nil ms)) refl refl (first_that (read_depends M deps u.operation N (M.own u.state) ms) u.log) refl
      where
        by : (q b : Bool) → has_number fs n ≡ q → (is_live M c n u && not (is_nil ms)) ≡ b → (o : Option (ℕ × Read M)) → first_that (read_depends M deps u.operation N (M.own u.state) ms) u.log ≡ o
            → AllHold (option_to_list (if q then None else (if b then option_map (λ (t : ℕ × Read M). Depends n t.0 (writer_for M t.1 ms)) o else None)))
        by true b d g o f = tt
        by false false d g o f = tt
        by false true d g None f = tt
        by false true d g (Some t) f =
            let F : Found (read_depends M deps u.operation N (M.own u.state) ms) u.log t = first_is (read_depends M deps u.operation N (M.own u.state) ms) u.log t f in
            let present : u.withdrawn ≡ false = live_present c n u (and_parts _ _ g).0 in
            let valid : is_valid M u.operation E (M.own u.state) t.1 ≡ true = all_at (is_valid M u.operation E (M.own u.state)) u.log F.place t.1 (v d present) F.first.found in
            let wrote : IsWriter M ms t.1 (writer_for M t.1 ms) = writer_is M t.1 ms (must_mention deps u.operation (M.own u.state) ms E N t.1 a valid F.first.passes) in (
              record {
                place = k;
                update = u;
                is_reader = e;
                there = h;
                present = present;
                above = l;
                at = F.place;
                read = t.1;
                is_number = F.is_place;
                first = subst (λ (z : M.Repository × List (Member M)). IsFirst (read_depends M deps u.operation z.0 (M.own u.state) z.1) u.log F.place t.1) (λ i. (x i, y i)) F.first;
                wrote = subst (λ z. IsWriter M z t.1 (writer_for M t.1 ms)) y wrote;
              },
              tt,
            )

    -- over E the reads of all but the first members are valid
    abbrev pub AreValid : List ℕ → M.Repository → ℕ → List (Update M) → Type 0
    AreValid fs E n [] = Unit {0}
    AreValid fs E n (u ∷ us) = (has_number fs n ≡ false → u.withdrawn ≡ false → all_valid M E u ≡ true) × AreValid fs (M.apply E (trail M u)) (suc n) us

    without_more : (z : Bool) (tw ws : List M.Write) → (if z then M.apply D tw else M.apply (M.apply D tw) ws) ≡ M.apply D (tw ++ (if z then [] else ws))
    without_more true tw ws = ap (λ vs. M.apply D vs) (sym (append-nil tw))
    without_more false tw ws = sym (L.apply_join D tw ws)

    with_more : (z : Bool) (ms : List (Member M)) (m : Member M) → (if z then ms ++ m ∷ [] else ms) ≡ ms ++ (if z then m ∷ [] else [])
    with_more true ms m = refl
    with_more false ms m = sym (append-nil ms)

    apart_next : (z : Bool) (E N : M.Repository) (ms : List (Member M)) (n : ℕ) (u : Update M) → Apart M ms E N → Apart M (with_member M z ms n u) (M.apply E (trail M u)) (without_member M z N u)
    apart_next true E N ms n u a = apart_more M L ms E N (record { number = n; trail = trail M u }) a
    apart_next false E N ms n u a = apart_kept M L ms E N (trail M u) a

    pub cascade_holds : (fs : List ℕ) (k n : ℕ) (E N : M.Repository) (ms : List (Member M)) (us : List (Update M)) → n ≡ suc k → j < n → drop k ws ≡ us → N ≡ below_without M D ns ws k → ms ≡ members_of M ns 1 (take k ws)
        → ((m : ℕ) → n ≤ m → has_number ns m ≡ (has_number fs m || has_number (readers (cascade M deps c fs N ms n us)) m))
        → Apart M ms E N → AreValid fs E n us → AllHold (cascade M deps c fs N ms n us)
    cascade_holds fs k n E N ms [] e l h x y q a v = tt
    cascade_holds fs k n E N ms (u ∷ us) e l h x y q a v =
        let there : slice_get ws k ≡ Some u = head_of k ws u us h in
        let b : Bool = has_number fs n || is_some (joining M deps c j fs N ms n u) in
        let is : b ≡ has_number ns n = sym (number_here M deps c j fs ns N ms n u us (q n (omega arith))) in
        let number : n ≡ 1 + k = omega (arith, e) in
        let x' : without_member M b N u ≡ below_without M D ns ws (suc k) =
        (λ i. without_member M (is i) (x i) u) ∙ without_more (has_number ns n) (trails_without M ns 1 (take k ws)) (trail M u) ∙ ap (λ vs. M.apply D vs) (sym (trails_more M ns 1 k n ws u number there)) in
        let y' : with_member M b ms n u ≡ members_of M ns 1 (take (suc k) ws) =
        (λ i. with_member M (is i) (y i) n u) ∙ with_more (has_number ns n) (members_of M ns 1 (take k ws)) (record { number = n; trail = trail M u }) ∙ sym (members_more M ns 1 k n ws u number there) in
        all_join (Holds M deps D j ns ws) (option_to_list (joining M deps c j fs N ms n u)) (cascade M deps c fs (without_member M b N u) (with_member M b ms n u) (suc n) us)
        (one_dependence fs k n E N ms u e l there x y a v.0)
        (cascade_holds fs (suc k) (suc n) (M.apply E (trail M u)) (without_member M b N u) (with_member M b ms n u) us (ap suc e) (omega (arith, l)) (rest_of k ws u us h) x' y'
        (λ m g. q m (omega (arith, g)) ∙ ap (λ z. has_number fs m || z) (number_later M deps c j fs N ms n m u us g))
        (apart_next b E N ms n u a) v.1)
