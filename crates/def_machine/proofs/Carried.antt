-- What each update's turn keeps holds of what lies below every one.
use Rattle.std.proofs.Common.{◌≡◌, ℕ, zero, suc, ◌<◌, ◌≤◌, ap, sym, subst, ◌∙◌, List, [], ◌∷◌, ◌++◌, take, length, arith, Some, append_assoc}
use Rattle.std.specs.Prelude.{slice_get}
use Rattle.std.specs.List.{flat_map}
use Rattle.std.proofs.lemmas.Option.{same_Some, none-some}
use Rattle.std.proofs.lemmas.List.{append-nil}
use Rattle.def_machine.proofs.Basics.{there}
use Rattle.def_machine.specs.Machine.{Machine, Laws}
use Rattle.def_machine.specs.Updates.{Update, trail, below}

pub flat_more : (M : Machine) (us : List (Update M)) (k : ℕ) (u : Update M) → slice_get us k ≡ Some u → flat_map (trail M) (take (suc k) us) ≡ flat_map (trail M) (take k us) ++ trail M u
flat_more M [] k u h = absurd (none-some u h)
flat_more M (v ∷ us) zero u h = append-nil (trail M v) ∙ ap (λ x. trail M x) (same_Some _ _ h)
flat_more M (v ∷ us) (suc k) u h = ap (λ ws. trail M v ++ ws) (flat_more M us k u h) ∙ sym (append_assoc (trail M v) (flat_map (trail M) (take k us)) (trail M u))

module _ (M : Machine) (L : Laws M) where
  -- what lies below the next update
  pub below_more : (D : M.Repository) (us : List (Update M)) (k : ℕ) (u : Update M) → slice_get us k ≡ Some u → below M D us (suc k) ≡ M.apply (below M D us k) (trail M u)
  below_more D us k u h = ap (λ ws. M.apply D ws) (flat_more M us k u h) ∙ L.apply_join D (flat_map (trail M) (take k us)) (trail M u)

  -- Has k E is said of the repository E that lies below update k + 1
  pub carried : (Has : ℕ → M.Repository → Type 0) (D : M.Repository) (us : List (Update M)) (k : ℕ) → k ≤ length us → Has 0 D
      → ((i : ℕ) (u : Update M) → i < k → slice_get us i ≡ Some u → Has i (below M D us i) → Has (suc i) (M.apply (below M D us i) (trail M u)))
      → Has k (below M D us k)
  carried Has D us zero l b s = subst (λ E. Has 0 E) (sym (L.apply_none D)) b
  carried Has D us (suc k) l b s =
      let u = there us k (omega arith) in
      subst (λ E. Has (suc k) E) (sym (below_more D us k u.0 u.1))
      (s k u.0 (omega arith) u.1 (carried Has D us k (omega arith) b (λ i v h. s i v (omega (arith, h)))))
