-- The cascade from the base on is that from just above the event's update.
use Rattle.std.proofs.Common.{◌≡◌, ℕ, zero, suc, ◌<◌, ◌≤◌, ◌+◌, ap, sym, refl, ◌∙◌, List, [], ◌∷◌, ◌++◌, drop, Bool, true, false, not, ◌&&◌, ◌||◌, arith, Some, None}
use Rattle.std.specs.Prelude.{if◌then◌else◌, is_some, slice_get, option_map, option_to_list}
use Rattle.std.proofs.lemmas.Bool.{and_right, or_from, ne_eqb, eq-eqb, or_left, both_ways}
use Rattle.std.proofs.lemmas.Option.{same_Some, none-some}
use Rattle.def_machine.specs.Machine.{Machine, Laws}
use Rattle.def_machine.specs.Updates.{Update, Deps, trail, below}
use Rattle.def_machine.specs.Reads.{first_that}
use Rattle.def_machine.specs.Cascade.{Cause, Depends, readers, Member, is_live, read_depends, writer_for, dependence_of, conflicts, cascade, has_number, with_member, without_member}
use Rattle.def_machine.specs.CallLaw.{CallLaw}
use Rattle.def_machine.proofs.Basics.{if_false}
use Rattle.def_machine.proofs.Places.{below_next}
use Rattle.def_machine.proofs.Walks.{conflicts_above}

module _ (M : Machine) (L : Laws M) (deps : Deps) (c : ℕ) where
  -- without members below nothing joins
  none_joins : (D : M.Repository) (n : ℕ) (u : Update M) → dependence_of M deps c D [] n u ≡ None
  none_joins D n u = if_false (is_live M c n u && not true) (option_map (λ (t : ℕ × _). Depends n t.0 (writer_for M t.1 [])) (first_that (read_depends M deps u.operation D (M.own u.state) []) u.log)) None (and_right (is_live M c n u) _ refl)

  -- one update that is no member
  pass : (fs : List ℕ) (D : M.Repository) (n : ℕ) (u : Update M) (us : List (Update M)) → has_number fs n ≡ false → cascade M deps c fs D [] n (u ∷ us) ≡ cascade M deps c fs (M.apply D (trail M u)) [] (suc n) us
  pass fs D n u us h =
      let joins : (if has_number fs n then None else dependence_of M deps c D [] n u) ≡ None = ap (λ b. if b then None else dependence_of M deps c D [] n u) h ∙ none_joins D n u in
      (λ i. option_to_list (joins i) ++ cascade M deps c fs (without_member M (has_number fs n || is_some (joins i)) D u) (with_member M (has_number fs n || is_some (joins i)) [] n u) (suc n) us)
      ∙ (λ i. cascade M deps c fs (without_member M (h i || false) D u) (with_member M (h i || false) [] n u) (suc n) us)

  -- the first k, of which none is a member
  pass_all : (fs : List ℕ) (D : M.Repository) (n k m : ℕ) (us : List (Update M)) → m ≡ n + k → ((i : ℕ) → i < m → has_number fs i ≡ false) → cascade M deps c fs D [] n us ≡ cascade M deps c fs (below M D us k) [] m (drop k us)
  pass_all fs D n zero m us e h = let f : n ≡ m = omega arith in λ i. cascade M deps c fs (sym (L.apply_none D) i) [] (f i) us
  pass_all fs D n (suc k) m [] e h = refl
  pass_all fs D n (suc k) m (u ∷ us) e h =
      pass fs D n u us (h n (omega (arith, e))) ∙ pass_all fs (M.apply D (trail M u)) (suc n) k m us (omega (arith, e)) h
      ∙ ap (λ E. cascade M deps c fs E [] m (drop k us)) (below_next M L D u us k)

  -- a first member below those that follow counts by its trail alone
  forget : (fs : List ℕ) (D : M.Repository) (ms : List (Member M)) (n : ℕ) (us : List (Update M)) → ((i : ℕ) → n ≤ i → has_number fs i ≡ false) → cascade M deps c fs D ms n us ≡ cascade M deps c [] D ms n us
  forget fs D ms n [] h = refl
  forget fs D ms n (u ∷ us) h =
      let out : has_number fs n ≡ false = h n (omega arith) in
      let b : Bool = is_some (dependence_of M deps c D ms n u) in
      (λ i. option_to_list (if out i then None else dependence_of M deps c D ms n u) ++ cascade M deps c fs (without_member M (out i || is_some (if out i then None else dependence_of M deps c D ms n u)) D u) (with_member M (out i || is_some (if out i then None else dependence_of M deps c D ms n u)) ms n u) (suc n) us)
      ∙ ap (λ cs. option_to_list (dependence_of M deps c D ms n u) ++ cs) (forget fs (without_member M b D u) (with_member M b ms n u) (suc n) us (λ i l. h i (omega (arith, l))))

  drop_at : {A : Type 0} (us : List A) (k : ℕ) (u : A) → slice_get us k ≡ Some u → drop k us ≡ u ∷ drop (suc k) us
  drop_at [] k u h = absurd (none-some u h)
  drop_at (w ∷ us) zero u h = ap (λ x. x ∷ us) (same_Some _ _ h)
  drop_at (w ∷ us) (suc k) u h = drop_at us k u h

  other : (j i : ℕ) → (j ≡ i → ⊥) → has_number (j ∷ []) i ≡ false
  other j i f = or_from _ _ (ne_eqb j i f) refl

pub call_law : (M : Machine) → Laws M → CallLaw M
call_law M L deps c D us k u h = record {
  loss = sym (pass_all M L deps c (suc k ∷ []) D 1 k (suc k) us (omega arith) (λ i l. other M L deps c (suc k) i (λ e. absurd (omega (arith, l, e))))
      ∙ ap (λ vs. cascade M deps c (suc k ∷ []) (below M D us k) [] (suc k) vs) (drop_at M L deps c us k u h)
      ∙ member (has_number (suc k ∷ []) (suc k)) (or_left _ _ (eq-eqb (suc k) (suc k) refl))
      ∙ forget M L deps c (suc k ∷ []) (below M D us k) (record { number = suc k; trail = trail M u } ∷ []) (suc (suc k)) (drop (suc k) us) (λ i l. other M L deps c (suc k) i (λ e. absurd (omega (arith, l, e)))));
  writes = ap (λ cs. first ++ cs) (sym (pass_all M L deps c (readers first) D 1 (suc k) (suc (suc k)) us (omega arith) (λ i l. conflicts_above M deps c (suc k) (below M D us (suc k)) (suc (suc k)) i (drop (suc k) us) l)));
}
  where
    first : List (Cause M)
    first = conflicts M c (suc k) (below M D us (suc k)) (suc (suc k)) (drop (suc k) us)

    member : (b : Bool) → b ≡ true
        → option_to_list (if b then None else dependence_of M deps c (below M D us k) [] (suc k) u)
        ++ cascade M deps c (suc k ∷ []) (without_member M (b || is_some (if b then None else dependence_of M deps c (below M D us k) [] (suc k) u)) (below M D us k) u) (with_member M (b || is_some (if b then None else dependence_of M deps c (below M D us k) [] (suc k) u)) [] (suc k) u) (suc (suc k)) (drop (suc k) us)
        ≡ cascade M deps c (suc k ∷ []) (below M D us k) (record { number = suc k; trail = trail M u } ∷ []) (suc (suc k)) (drop (suc k) us)
    member true e = refl
    member false e = absurd (both_ways false refl e)
