-- How many turns the seats have in all.
use Rattle.std.proofs.Common.{◌≡◌, ℕ, zero, suc, ◌+◌, ◌≤◌, List, [], ◌∷◌, ◌++◌, length, set, sym, ap, arith}
use mathlib.Core.Option.{some, some-injective, some-ne-none}
use lib.ListN.{get_elem?}
use Rattle.work_lock.specs.declared.view.View.{View}
use Rattle.work_lock.specs.declared.view.Stage.{Stage}
use Rattle.work_lock.specs.declared.view.Stage.TheVariants.{Resting, Waiting, Opened, Spent}
use Rattle.work_lock.specs.Rule.{turns_in, total}

waits_once : (st : Stage) → turns_in st ≤ 1
waits_once Resting = omega arith
waits_once (Waiting t) = omega arith
waits_once (Opened t) = omega arith
waits_once Spent = omega arith

module _ {E : Type 0} where
  pub total_set : (vs : List (View E)) (j : ℕ) (v w : View E) → get_elem? vs j ≡ some v → total (set vs j w) + turns_in v.stage ≡ total vs + turns_in w.stage
  total_set [] j v w at = absurd (some-ne-none v (sym at))
  total_set (x ∷ vs) zero v w at = let e : turns_in x.stage ≡ turns_in v.stage = ap (λ (u : View E). turns_in u.stage) (some-injective x v at) in omega arith
  total_set (x ∷ vs) (suc j) v w at = let t = total_set vs j v w at in omega arith

  pub total_snoc : (vs : List (View E)) (w : View E) → total (vs ++ w ∷ []) ≡ total vs + turns_in w.stage
  total_snoc [] w = omega arith
  total_snoc (x ∷ vs) w = let t = total_snoc vs w in omega arith

  pub total_bound : (vs : List (View E)) → total vs ≤ length vs
  total_bound [] = omega arith
  total_bound (x ∷ vs) = let t = total_bound vs in let o = waits_once x.stage in omega arith
