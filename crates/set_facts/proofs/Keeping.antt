-- What an index keeps at one of its places, as the set changes: exactly the tuples of the set that pass.
use Rattle.std.proofs.Common.{◌≡◌, ap, refl, sym, ◌∙◌, List, ◌∷◌, Bool, true, false, ◌||◌, ◌&&◌, not}
use Rattle.def_chase.specs.Repository.{Insert, Delete, change, has}
use Rattle.def_chase.specs.Values.{Fact, same_fact}
use Rattle.def_chase.proofs.Sets.{has-insert, has-delete, same_exact}

module _ (p : Fact → Bool) (D : List Fact) (t u : Fact) where
  -- A tuple more is kept.
  pub one_grows : (a b : Bool) → a ≡ (has D u && p u) → b ≡ (a || (p t && same_fact u t)) → b ≡ (has (change D (Insert t)) u && p u)
  one_grows a b x h = h ∙ ap (λ z. z || (p t && same_fact u t)) x ∙ by (same_fact u t) refl ∙ ap (λ z. z && p u) (sym (has-insert D t u))
    where
      here : (a b : Bool) → ((a && b) || (b && true)) ≡ b
      here true true = refl
      here true false = refl
      here false true = refl
      here false false = refl

      elsewhere : (a b : Bool) → (a || (b && false)) ≡ a
      elsewhere true b = refl
      elsewhere false true = refl
      elsewhere false false = refl

      by : (b : Bool) → same_fact u t ≡ b → ((has D u && p u) || (p t && b)) ≡ ((b || has D u) && p u)
      by true e = ap (λ (v : Fact). (has D u && p u) || (p v && true)) (sym (same_exact u t e)) ∙ here (has D u) (p u)
      by false e = elsewhere (has D u && p u) (p t)

  -- A tuple less.
  pub one_shrinks : (a b : Bool) → a ≡ (has D u && p u) → b ≡ (a && not (p t && same_fact u t)) → b ≡ (has (change D (Delete t)) u && p u)
  one_shrinks a b x h = h ∙ ap (λ z. z && not (p t && same_fact u t)) x ∙ by (same_fact u t) refl ∙ ap (λ z. z && p u) (sym (has-delete D t u))
    where
      here : (a b : Bool) → ((a && b) && not (b && true)) ≡ ((a && false) && b)
      here true true = refl
      here true false = refl
      here false b = refl

      elsewhere : (a b x : Bool) → ((a && b) && not (x && false)) ≡ ((a && true) && b)
      elsewhere true true true = refl
      elsewhere true true false = refl
      elsewhere true false x = refl
      elsewhere false b x = refl

      by : (b : Bool) → same_fact u t ≡ b → ((has D u && p u) && not (p t && b)) ≡ ((has D u && not b) && p u)
      by true e = ap (λ (v : Fact). (has D u && p u) && not (p v && true)) (sym (same_exact u t e)) ∙ here (has D u) (p u)
      by false e = elsewhere (has D u) (p u) (p t)

  -- What was added in part is kept too, if the set has it.
  pub one_stays : (m : Bool) → m ≡ ((has D u && p u) || ((p t && same_fact u t) && m)) → has D t ≡ true → m ≡ (has D u && p u)
  one_stays m x e = x ∙ by (same_fact u t) refl
    where
      here : (w : Bool) → ((true && w) || ((w && true) && m)) ≡ (true && w)
      here true = refl
      here false = refl

      elsewhere : (a w : Bool) → (a || ((w && false) && m)) ≡ a
      elsewhere true w = refl
      elsewhere false true = refl
      elsewhere false false = refl

      by : (b : Bool) → same_fact u t ≡ b → ((has D u && p u) || ((p t && b) && m)) ≡ (has D u && p u)
      by true f =
          let there : has D u ≡ true = ap (has D) (same_exact u t f) ∙ e in
          (λ i. (there i && p u) || ((p (sym (same_exact u t f) i) && true) && m)) ∙ here (p u) ∙ ap (λ b. b && p u) (sym there)
      by false f = elsewhere (has D u && p u) (p t)

  -- It is swept, if the set does not have it.
  pub one_swept : (m n : Bool) → m ≡ ((has D u && p u) || ((p t && same_fact u t) && m)) → n ≡ (m && not (p t && same_fact u t)) → has D t ≡ false → n ≡ (has D u && p u)
  one_swept m n x h e =
      h ∙ ap (λ b. b && not (p t && same_fact u t)) x ∙ swept (has D u && p u) (p t && same_fact u t) m ∙ by (same_fact u t) refl
    where
      swept : (a b m : Bool) → ((a || (b && m)) && not b) ≡ (a && not b)
      swept true b m = refl
      swept false true true = refl
      swept false true false = refl
      swept false false m = refl

      elsewhere : (a w : Bool) → (a && not (w && false)) ≡ a
      elsewhere true true = refl
      elsewhere true false = refl
      elsewhere false w = refl

      by : (b : Bool) → same_fact u t ≡ b → ((has D u && p u) && not (p t && b)) ≡ (has D u && p u)
      by true f =
          let absent : has D u ≡ false = ap (has D) (same_exact u t f) ∙ e in
          ap (λ a. (a && p u) && not (p t && true)) absent ∙ ap (λ a. a && p u) (sym absent)
      by false f = elsewhere (has D u && p u) (p t)

-- All tuples that are not left are kept.
pub one_goes_on : (p : Fact → Bool) (D left rest : List Fact) (t u : Fact) (a b : Bool) → left ≡ t ∷ rest → b ≡ (a || (p t && same_fact u t)) → (a || (has left u && p u)) ≡ (has D u && p u) → (b || (has rest u && p u)) ≡ (has D u && p u)
one_goes_on p D left rest t u a b e h x =
    ap (λ z. z || (has rest u && p u)) h ∙ by (same_fact u t) refl ∙ sym (ap (λ (l : List Fact). a || (has l u && p u)) e) ∙ x
  where
    here : (a b r : Bool) → ((a || (b && true)) || (r && b)) ≡ (a || b)
    here true b r = refl
    here false true r = refl
    here false false true = refl
    here false false false = refl

    elsewhere : (a x y : Bool) → ((a || (x && false)) || y) ≡ (a || y)
    elsewhere true x y = refl
    elsewhere false true y = refl
    elsewhere false false y = refl

    by : (b : Bool) → same_fact u t ≡ b → ((a || (p t && b)) || (has rest u && p u)) ≡ (a || ((b || has rest u) && p u))
    by true f = ap (λ (v : Fact). (a || (p v && true)) || (has rest u && p u)) (sym (same_exact u t f)) ∙ here a (p u) (has rest u)
    by false f = elsewhere a (p t) (has rest u && p u)
