-- The update at a place of the list, those below it and those above it.
use Rattle.std.proofs.Common.{◌≡◌, ℕ, zero, suc, ◌<◌, ◌≤◌, ◌+◌, ap, sym, refl, subst, ◌∙◌, List, [], ◌∷◌, ◌++◌, take, drop, length, Bool, true, false, arith, Some, None}
use Rattle.std.specs.Prelude.{if◌then◌else◌, Option, slice_get, option_and_then}
use Rattle.std.specs.List.{flat_map, list_all}
use Rattle.std.proofs.lemmas.Bool.{both_ways}
use Rattle.std.proofs.lemmas.Option.{same_Some, none-some}
use Rattle.def_machine.specs.Machine.{Machine, Laws}
use Rattle.def_machine.specs.Updates.{Update, trail, below, is_over, committed}
use Rattle.def_machine.specs.Reads.{all_valid, is_valid}
use Rattle.def_machine.specs.Runs.{IsRun, AreRuns}
use Rattle.def_machine.specs.Effects.{where_allowed}
use Rattle.def_machine.proofs.Basics.{if_both, if_some}
use Rattle.def_machine.proofs.Settling.{run_valid}

-- where something is done at an update, there is one, and it is allowed
pub record IsAllowed {A B : Type 0} (us : List A) (i : ℕ) (allowed : ℕ → A → Bool) (f : ℕ → A → B) (y : B) : Type 0 where
  pub place : ℕ
  pub item : A
  pub number : i ≡ suc place
  pub found : slice_get us place ≡ Some item
  pub may : allowed place item ≡ true
  pub made : f place item ≡ y

pub allowed_is : {A B : Type 0} (us : List A) (i : ℕ) (allowed : ℕ → A → Bool) (f : ℕ → A → B) (y : B) → where_allowed us i allowed f ≡ Some y → IsAllowed us i allowed f y
allowed_is us zero allowed f y h = absurd (none-some y h)
allowed_is {A} us (suc k) allowed f y h = go (slice_get us k) refl h
  where
    go : (o : Option A) → slice_get us k ≡ o → option_and_then (λ u. if allowed k u then Some (f k u) else None) o ≡ Some y → IsAllowed us (suc k) allowed f y
    go None e g = absurd (none-some y g)
    go (Some u) e g = let p = if_some (allowed k u) (Some (f k u)) y g in
        record { place = k; item = u; number = refl; found = e; may = p.0; made = same_Some _ _ p.1 }

-- the others keep their places
pub taken_same : {A : Type 0} (us vs : List A) (k i : ℕ) → i < k → k ≤ length us → slice_get (take k us ++ vs) i ≡ slice_get us i
taken_same us vs zero i h l = absurd (omega arith)
taken_same [] vs (suc k) i h l = absurd (omega arith)
taken_same (u ∷ us) vs (suc k) zero h l = refl
taken_same (u ∷ us) vs (suc k) (suc i) h l = taken_same us vs k i (omega arith) (omega arith)

pub put_here : {A : Type 0} (us : List A) (v : A) (vs : List A) (k : ℕ) → k ≤ length us → slice_get (take k us ++ v ∷ vs) k ≡ Some v
put_here us v vs zero l = refl
put_here [] v vs (suc k) l = absurd (omega arith)
put_here (u ∷ us) v vs (suc k) l = put_here us v vs k (omega arith)

pub put_above : {A : Type 0} (us : List A) (v : A) (vs : List A) (k i m : ℕ) → m ≡ k + suc i → k ≤ length us → slice_get (take k us ++ v ∷ vs) m ≡ slice_get vs i
put_above us v vs zero i m e l = let f : m ≡ suc i = omega arith in ap (λ x. slice_get (v ∷ vs) x) f
put_above [] v vs (suc k) i m e l = absurd (omega arith)
put_above (u ∷ us) v vs (suc k) i zero e l = absurd (omega arith)
put_above (u ∷ us) v vs (suc k) i (suc m) e l = put_above us v vs k i m (omega arith) (omega arith)

pub dropped_same : {A : Type 0} (us : List A) (k i m : ℕ) → m ≡ k + i → slice_get (drop k us) i ≡ slice_get us m
dropped_same us zero i m e = let f : i ≡ m = omega arith in ap (λ x. slice_get us x) f
dropped_same [] (suc k) i m e = refl
dropped_same (u ∷ us) (suc k) i zero e = absurd (omega arith)
dropped_same (u ∷ us) (suc k) i (suc m) e = dropped_same us k i m (omega arith)

pub take_put : {A : Type 0} (us vs : List A) (k i : ℕ) → i ≤ k → k ≤ length us → take i (take k us ++ vs) ≡ take i us
take_put us vs k zero h l = refl
take_put us vs zero (suc i) h l = absurd (omega arith)
take_put [] vs (suc k) (suc i) h l = absurd (omega arith)
take_put (u ∷ us) vs (suc k) (suc i) h l = ap (λ ws. u ∷ ws) (take_put us vs k i (omega arith) (omega arith))

module _ (M : Machine) where
  -- an update that isn't over isn't committed
  pub committed_below : (us : List (Update M)) (k : ℕ) (u : Update M) → slice_get us k ≡ Some u → is_over M u ≡ false → committed M us ≤ k
  committed_below [] k u h o = absurd (none-some u h)
  committed_below (v ∷ us) zero u h o = if_both (λ n. n ≤ 0) (is_over M v) _ _ (λ e. absurd (both_ways _ (ap (is_over M) (same_Some _ _ h) ∙ o) e)) (λ e. omega arith)
  committed_below (v ∷ us) (suc k) u h o = if_both (λ n. n ≤ suc k) (is_over M v) _ _ (λ e. omega (arith, committed_below us k u h o)) (λ e. omega arith)

  -- what is committed stays so while the first updates stay
  pub committed_kept : (us vs : List (Update M)) (k : ℕ) → committed M us ≤ k → k ≤ length us → committed M us ≤ committed M (take k us ++ vs)
  committed_kept us vs zero c l = omega (arith, c)
  committed_kept [] vs (suc k) c l = omega arith
  committed_kept (u ∷ us) vs (suc k) c l = go (is_over M u) c (λ h. committed_kept us vs k h (omega arith))
    where
      go : (b : Bool) → (if b then suc (committed M us) else 0) ≤ suc k → (committed M us ≤ k → committed M us ≤ committed M (take k us ++ vs)) → (if b then suc (committed M us) else 0) ≤ (if b then suc (committed M (take k us ++ vs)) else 0)
      go true h f = omega (arith, f (omega (arith, h)))
      go false h f = omega arith

  pub committed_more : (us vs : List (Update M)) → committed M us ≤ committed M (us ++ vs)
  committed_more [] vs = omega arith
  committed_more (u ∷ us) vs = go (is_over M u) (committed_more us vs)
    where
      go : (b : Bool) → committed M us ≤ committed M (us ++ vs) → (if b then suc (committed M us) else 0) ≤ (if b then suc (committed M (us ++ vs)) else 0)
      go true h = omega (arith, h)
      go false h = omega arith

module _ (M : Machine) (L : Laws M) where
  pub below_next : (D : M.Repository) (u : Update M) (us : List (Update M)) (k : ℕ) → below M (M.apply D (trail M u)) us k ≡ below M D (u ∷ us) (suc k)
  below_next D u us k = sym (L.apply_join D (trail M u) (flat_map (trail M) (take k us)))

  pub sound_below : (D : M.Repository) (us : List (Update M)) (k : ℕ) → M.Sound D → M.Sound (below M D us k)
  sound_below D us k z = L.sound_apply D (flat_map (trail M) (take k us)) z

  pub runs_at : (D : M.Repository) (n k : ℕ) (us : List (Update M)) (u : Update M) → AreRuns M D n us → slice_get us k ≡ Some u → IsRun M (below M D us k) (n + k) u
  runs_at D n k [] u r h = absurd (none-some u h)
  runs_at D n zero (v ∷ us) u r h =
      let e : n ≡ n + 0 = omega arith in
      subst (λ x. IsRun M (below M D (v ∷ us) 0) (n + 0) x) (same_Some _ _ h)
      (subst (λ F. IsRun M F (n + 0) v) (sym (L.apply_none D)) (subst (λ m. IsRun M D m v) e r.0))
  runs_at D n (suc k) (v ∷ us) u r h =
      let e : suc n + k ≡ n + suc k = omega arith in
      subst (λ F. IsRun M F (n + suc k) u) (below_next D v us k)
      (subst (λ m. IsRun M (below M (M.apply D (trail M v)) us k) m u) e (runs_at (M.apply D (trail M v)) (suc n) k us u r.1 h))

  pub valid_at : (D : M.Repository) (n k : ℕ) (us : List (Update M)) (u : Update M) → AreRuns M D n us → slice_get us k ≡ Some u → all_valid M (below M D us k) u ≡ true
  valid_at D n k us u r h = go u.withdrawn refl
    where
      go : (w : Bool) → u.withdrawn ≡ w → all_valid M (below M D us k) u ≡ true
      go false w = run_valid M L (below M D us k) (n + k) u w (runs_at D n k us u r h)
      go true w = ap (λ l. list_all (is_valid M u.operation (below M D us k) (M.own u.state)) l) ((runs_at D n k us u r h).gone w)

  -- those above the update at a place
  pub runs_above : (D : M.Repository) (n k : ℕ) (us : List (Update M)) (u : Update M) → AreRuns M D n us → slice_get us k ≡ Some u → AreRuns M (M.apply (below M D us k) (trail M u)) (suc (n + k)) (drop (suc k) us)
  runs_above D n k [] u r h = absurd (none-some u h)
  runs_above D n zero (v ∷ us) u r h =
      let e : suc n ≡ suc (n + 0) = omega arith in
      subst (λ m. AreRuns M (M.apply (below M D (v ∷ us) 0) (trail M u)) m us) e
      (subst (λ F. AreRuns M F (suc n) us) (ap (λ x. M.apply D (trail M x)) (same_Some _ _ h) ∙ ap (λ F. M.apply F (trail M u)) (sym (L.apply_none D))) r.1)
  runs_above D n (suc k) (v ∷ us) u r h =
      let e : suc (suc n + k) ≡ suc (n + suc k) = omega arith in
      subst (λ F. AreRuns M (M.apply F (trail M u)) (suc (n + suc k)) (drop (suc k) us)) (below_next D v us k)
      (subst (λ m. AreRuns M (M.apply (below M (M.apply D (trail M v)) us k) (trail M u)) m (drop (suc k) us)) e (runs_above (M.apply D (trail M v)) (suc n) k us u r.1 h))

  -- the first k with others above them
  pub runs_join : (D : M.Repository) (n k : ℕ) (us vs : List (Update M)) → k ≤ length us → AreRuns M D n us → AreRuns M (below M D us k) (n + k) vs → AreRuns M D n (take k us ++ vs)
  runs_join D n zero us vs l r q =
      let e : n + 0 ≡ n = omega arith in
      subst (λ m. AreRuns M D m vs) e (subst (λ F. AreRuns M F (n + 0) vs) (L.apply_none D) q)
  runs_join D n (suc k) [] vs l r q = absurd (omega arith)
  runs_join D n (suc k) (u ∷ us) vs l r q =
      let e : n + suc k ≡ suc n + k = omega arith in (
        r.0,
        runs_join (M.apply D (trail M u)) (suc n) k us vs (omega arith) r.1
            (subst (λ F. AreRuns M F (suc n + k) vs) (sym (below_next D u us k)) (subst (λ m. AreRuns M (below M D (u ∷ us) (suc k)) m vs) e q)),
      )
