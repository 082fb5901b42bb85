-- A look finds the first violation of a mapping in force, and in the caused scope it is the same.
use Rattle.std.specs.Prelude.{◌==◌, nat_lt, slice_get, Option, Some, None}
use Rattle.std.proofs.Common.{◌≡◌, ℕ, suc, ap, refl, sym, ◌∙◌, subst, List, [], ◌∷◌, Bool, true, false, ◌||◌, cond, arith}
use Rattle.def_machine.specs.Trees.{Node, result_of}
use Rattle.def_chase.specs.Values.{Fact}
use Rattle.def_chase.specs.Repository.{Change, has, apply}
use Rattle.def_chase.specs.Mappings.{Rule, force, in_force, AllHold}
use Rattle.def_chase.specs.Violations.{Direction, Scope, Every, Caused, first_violation}
use Rattle.def_chase.specs.Queries.{Query, Present, Violation, Reply, Yes, No, image_reply, violation_reply, scope_at}
use Rattle.def_chase.specs.Updates.{direction_of}
use Rattle.def_chase.specs.Laws.{HaveNoNulls}
use Rattle.def_chase.specs.Caused.{Kept}
use Rattle.def_chase.proofs.Bools.{some_same}
use Rattle.def_chase.proofs.Scopes.{caused_values}
use Rattle.def_steps.specs.Attempts.{Done, Ended, Attempt}
use Rattle.def_steps.specs.Steps.{Asking, makes, is_yes, image_in, repair, repair_or, look_at, look_from, step, step_in}
use Rattle.def_steps.specs.Chase.{caused}
use Rattle.def_steps.specs.Looking.{NoneLater, found_or, first_in_force}
use Rattle.def_steps.specs.Soundness.{answered_in, LooksAreFirst}
use Rattle.def_steps.proofs.Steady.{Tail, tail_next, first_reply, image_back}
use Rattle.def_steps.proofs.Reaching.{Steady, reached_steady}

-- ---- both scopes find the same

module _ (ms : List Rule) (D : List Fact) (own : List Change) (d : Direction) (plain : HaveNoNulls ms) (held : AllHold ms D) (kept : Kept d D own) where
  one_violation : (n : ℕ) (m : Rule) → slice_get ms n ≡ Some m → in_force n m (apply D own) ≡ true
      → first_violation (scope_at (Caused d) own n) own m (apply D own) ≡ first_violation Every own m (apply D own)
  one_violation n m e f =
      let same : image_reply (first_violation Every own m (apply D own)) ≡ image_reply (first_violation (scope_at (Caused d) own n) own m (apply D own)) =
      ap (λ (o : Option Rule). violation_reply o Every own (apply D own)) (sym e)
      ∙ caused_values d ms (Violation n) D own plain held kept (λ i l q g. here i l q g)
      ∙ ap (λ (o : Option Rule). violation_reply o (scope_at (Caused d) own n) own (apply D own)) e in
      sym (sym (image_back (first_violation Every own m (apply D own))) ∙ ap image_in same ∙ image_back (first_violation (scope_at (Caused d) own n) own m (apply D own)))
    where
      number_of : (i j : ℕ) → Violation i ≡ Violation j → i ≡ j
      number_of i j e = cc

      here : (i : ℕ) (l : Rule) → Violation n ≡ Violation i → slice_get ms i ≡ Some l → in_force i l (apply D own) ≡ true
      here i l q g =
          let same : n ≡ i = number_of n i q in
          let one : m ≡ l = some_same m l (sym e ∙ ap (slice_get ms) same ∙ g) in
          (λ k. in_force (sym same k) (sym one k) (apply D own)) ∙ f

  first_same : (n : ℕ) (rs : List Rule) → Tail 0 ms Every D own n rs → first_in_force (Caused d) own n rs (apply D own) ≡ first_in_force Every own n rs (apply D own)
  first_same n [] t = refl
  first_same n (m ∷ rs) t = by (in_force n m (apply D own)) refl (first_same (suc n) rs (tail_next 0 ms Every D own n m rs t))
    where
      at : slice_get ms n ≡ Some m
      at = ap (slice_get ms) (omega arith) ∙ sym (t 0)

      by : (b : Bool) → in_force n m (apply D own) ≡ b → first_in_force (Caused d) own (suc n) rs (apply D own) ≡ first_in_force Every own (suc n) rs (apply D own)
          → cond b (found_or n (first_violation (scope_at (Caused d) own n) own m (apply D own)) (first_in_force (Caused d) own (suc n) rs (apply D own))) (first_in_force (Caused d) own (suc n) rs (apply D own))
          ≡ cond b (found_or n (first_violation Every own m (apply D own)) (first_in_force Every own (suc n) rs (apply D own))) (first_in_force Every own (suc n) rs (apply D own))
      by true f rest = λ i. found_or n (one_violation n m at f i) (rest i)
      by false f rest = rest

-- ---- what the look makes of it

module _ (ms : List Rule) (scope : Scope) (D : List Fact) (P : Attempt) where
  -- the repair of what is found, or the end
  abbrev repair_at : ℕ → List Fact → Option Rule → Asking
  repair_at n image None = makes [] (Ended Done)
  repair_at n image (Some m) = repair P (direction_of P.operation) n m image

  abbrev pub makes_of : Option (ℕ × List Fact) → Asking
  makes_of None = makes [] (Ended Done)
  makes_of (Some f) = repair_at f.0 f.1 (slice_get ms f.0)

  abbrev Asks : Query → Reply
  Asks = answered_in scope ms D P

  pub look_makes : (n : ℕ) (rs : List Rule) → Tail 0 ms scope D P.own n rs → NoneLater P.number n rs (apply D P.own)
      → result_of Asks (look_from P n rs) ≡ result_of Asks (makes_of (first_in_force scope P.own n rs (apply D P.own)))
  look_makes n [] t later = refl
  look_makes n (m ∷ rs) t later =
      by (m.since == 0) refl (nat_lt P.number m.since) refl (has (apply D P.own) (force n)) refl (look_makes (suc n) rs (tail_next 0 ms scope D P.own n m rs t) later.1)
    where
      at : slice_get ms n ≡ Some m
      at = ap (slice_get ms) (omega arith) ∙ sym (t 0)

      repaired : (o : Option (List Fact)) → result_of (answered_in scope ms D P) (look_from P (suc n) rs) ≡ result_of (answered_in scope ms D P) (makes_of (first_in_force scope P.own (suc n) rs (apply D P.own)))
          → result_of (answered_in scope ms D P) (repair_or P n m o (look_from P (suc n) rs)) ≡ result_of (answered_in scope ms D P) (makes_of (found_or n o (first_in_force scope P.own (suc n) rs (apply D P.own))))
      repaired None h = h
      repaired (Some image) h = ap (λ o. result_of (answered_in scope ms D P) (repair_at n image o)) (sym at)

      looked : result_of (answered_in scope ms D P) (look_from P (suc n) rs) ≡ result_of (answered_in scope ms D P) (makes_of (first_in_force scope P.own (suc n) rs (apply D P.own)))
          → result_of (answered_in scope ms D P) (look_at P n m (look_from P (suc n) rs))
          ≡ result_of (answered_in scope ms D P) (makes_of (found_or n (first_violation (scope_at scope P.own n) P.own m (apply D P.own)) (first_in_force scope P.own (suc n) rs (apply D P.own))))
      looked h =
          ap (λ o. result_of (answered_in scope ms D P) (repair_or P n m o (look_from P (suc n) rs))) (ap image_in (first_reply 0 ms scope D P.own n m rs t) ∙ image_back (first_violation (scope_at scope P.own n) P.own m (apply D P.own)))
          ∙ repaired (first_violation (scope_at scope P.own n) P.own m (apply D P.own)) h

      by : (a : Bool) → (m.since == 0) ≡ a → (b : Bool) → nat_lt P.number m.since ≡ b → (c : Bool) → has (apply D P.own) (force n) ≡ c
          → result_of (answered_in scope ms D P) (look_from P (suc n) rs) ≡ result_of (answered_in scope ms D P) (makes_of (first_in_force scope P.own (suc n) rs (apply D P.own)))
          → result_of (answered_in scope ms D P) (cond a (look_at P n m (look_from P (suc n) rs)) (cond b (look_from P (suc n) rs) (Node (Present (force n)) (λ r. cond (is_yes r) (look_at P n m (look_from P (suc n) rs)) (look_from P (suc n) rs)))))
          ≡ result_of (answered_in scope ms D P)
          (makes_of (cond (a || has (apply D P.own) (force n)) (found_or n (first_violation (scope_at scope P.own n) P.own m (apply D P.own)) (first_in_force scope P.own (suc n) rs (apply D P.own))) (first_in_force scope P.own (suc n) rs (apply D P.own))))
      by true x b y c z h = looked h
      by false x true y c z h =
          h ∙ ap (λ g. result_of (answered_in scope ms D P) (makes_of (cond g (found_or n (first_violation (scope_at scope P.own n) P.own m (apply D P.own)) (first_in_force scope P.own (suc n) rs (apply D P.own))) (first_in_force scope P.own (suc n) rs (apply D P.own)))))
          (sym (ap (λ g. g || has (apply D P.own) (force n)) (sym x) ∙ later.0 y))
      by false x false y true z h =
          ap (λ g. result_of (answered_in scope ms D P) (cond (is_yes (cond g Yes No)) (look_at P n m (look_from P (suc n) rs)) (look_from P (suc n) rs))) z ∙ looked h
          ∙ ap (λ g. result_of (answered_in scope ms D P) (makes_of (cond g (found_or n (first_violation (scope_at scope P.own n) P.own m (apply D P.own)) (first_in_force scope P.own (suc n) rs (apply D P.own))) (first_in_force scope P.own (suc n) rs (apply D P.own))))) (sym z)
      by false x false y false z h =
          ap (λ g. result_of (answered_in scope ms D P) (cond (is_yes (cond g Yes No)) (look_at P n m (look_from P (suc n) rs)) (look_from P (suc n) rs))) z ∙ h
          ∙ ap (λ g. result_of (answered_in scope ms D P) (makes_of (cond g (found_or n (first_violation (scope_at scope P.own n) P.own m (apply D P.own)) (first_in_force scope P.own (suc n) rs (apply D P.own))) (first_in_force scope P.own (suc n) rs (apply D P.own))))) (sym z)

pub looks_are_first : LooksAreFirst
looks_are_first ms B D answers u a op P log plain held r at later =
    record {
      one = one;
      found = λ n image m e g. makes ∙ ap (λ o. result_of Asks (makes_of ms (caused op) D P o)) (one ∙ e) ∙ ap (λ o. result_of Asks (repair_at ms (caused op) D P n image o)) g
          ∙ ap (λ o. result_of Asks (repair P (direction_of o) n m image)) s.operation;
      none = λ e. makes ∙ ap (λ o. result_of Asks (makes_of ms (caused op) D P o)) (one ∙ e);
    }
  where
    Asks : Query → Reply
    Asks = answered_in (caused op) ms D P

    s : Steady u ms caused D op P
    s = reached_steady caused ms B D answers u a op r

    one : first_in_force (caused op) P.own 0 ms (apply D P.own) ≡ first_in_force Every P.own 0 ms (apply D P.own)
    one = first_same ms D P.own (direction_of op) plain held (subst (λ o. Kept (direction_of o) D P.own) s.operation s.kept) 0 ms (λ j. ap (slice_get ms) (omega arith))

    makes : result_of (answered_in (caused op) ms D P) (step ms P None) ≡ result_of (answered_in (caused op) ms D P) (makes_of ms (caused op) D P (first_in_force (caused op) P.own 0 ms (apply D P.own)))
    makes =
        ap (λ p. result_of (answered_in (caused op) ms D P) (step_in ms P None p)) at
        ∙ look_makes ms (caused op) D P 0 ms (λ j. ap (slice_get ms) (omega arith)) (subst (λ k. NoneLater k 0 ms (apply D P.own)) (sym s.number) later)
