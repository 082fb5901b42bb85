-- Where it is quiet, the committed updates and the one that stops are the serial machine's whole result.
use Rattle.std.proofs.Common.{◌≡◌, ℕ, zero, suc, ◌≤◌, ◌+◌, ◌-◌, ap, sym, refl, ◌∙◌, List, [], ◌∷◌, ◌++◌, append-nil, Bool, true, false, ◌||◌, arith, Some, None}
use Rattle.std.specs.Prelude.{if◌then◌else◌, Option, slice_get, is_some, is_none, nat_lt}
use Rattle.std.proofs.lemmas.Bool.{and_parts, and_right, or_from, or_parts, or_left, or_right, le-ltb, both_ways}
use Rattle.std.proofs.lemmas.Option.{same_Some, none-some}
use Rattle.def_machine.specs.Machine.{Machine, Laws}
use Rattle.def_machine.specs.Updates.{Update, Settings, shown, trail, is_over, committed, below}
use Rattle.def_machine.specs.Standings.{Lack, Missing, Misfit, lack, is_held, standing, is_ready, is_deliverable, lowest_that, lowest_ready, lowest_deliverable, is_quiet}
use Rattle.def_machine.specs.Steps.{next_state}
use Rattle.def_machine.specs.Runs.{IsRun, AreRuns}
use Rattle.def_machine.specs.Serial.{Ends, Stops, go_on, run, Turn, whole, with_finish, after_turn, serial, committed_finishes, all_turns, stop_at, first_stop}
use Rattle.def_machine.proofs.Basics.{if_true, if_false, longer_keeps, none_from}
use Rattle.def_machine.proofs.Places.{below_next}
use Rattle.def_machine.proofs.Events.{answers_kept, same_lack}
use Rattle.def_machine.proofs.Standing.{stopped_is}
use Rattle.def_machine.proofs.Serials.{counted, run_to, whole_is}

-- nothing in the list passes the test
pub none_that : {M : Machine} (p : ℕ → Update M → Bool) (n k : ℕ) (us : List (Update M)) (u : Update M) → lowest_that p n us ≡ None → slice_get us k ≡ Some u → p (n + k) u ≡ false
none_that p n k [] u h f = absurd (none-some u f)
none_that {M} p n k (v ∷ us) u h f = by (p n v) refl h k f (λ g j e. none_that p (suc n) j us u g e)
  where
    by : (b : Bool) → p n v ≡ b → (if b then Some n else lowest_that p (suc n) us) ≡ None → (k : ℕ) → slice_get (v ∷ us) k ≡ Some u → (lowest_that p (suc n) us ≡ None → (j : ℕ) → slice_get us j ≡ Some u → p (suc n + j) u ≡ false) → p (n + k) u ≡ false
    by true e h k f go = absurd (none-some n (sym h))
    by false e h zero f go = let m : n + 0 ≡ n = omega arith in ap (λ x. p x u) m ∙ ap (λ x. p n x) (sym (same_Some _ _ f)) ∙ e
    by false e h (suc j) f go = let m : n + suc j ≡ suc n + j = omega arith in ap (λ x. p x u) m ∙ go h j f

none_is : {A : Type 0} (o : Option A) → is_none o ≡ true → o ≡ None
none_is None h = refl
none_is (Some x) h = absurd (both_ways false refl h)

four : {A B C : Type 0} (P : List A → List B → C → ℕ → Type 0) (w e : Bool) (a a' : List A) (b b' : List B) (p q : C) (c : ℕ)
    → (w ≡ true → P a b p (suc c)) → (w ≡ false → e ≡ true → P a' b' p (suc c)) → (w ≡ false → e ≡ false → P a' [] q 0)
    → P (if w then a else a') (if w || e then (if w then b else b') else []) (if w || e then p else q) (if w || e then suc c else 0)
four P true e a a' b b' p q c f g h = f refl
four P false true a a' b b' p q c f g h = g refl refl
four P false false a a' b b' p q c f g h = h refl refl

misfit_missing : ◌≡◌ {A = Option Lack} (Some Misfit) (Some Missing) → ⊥
misfit_missing h = cc

module _ (M : Machine) (L : Laws M) where
  -- it stops for want of an answer that nobody has recorded, or of one that fits
  abbrev pub IsStopped : Update M → Type 0
  IsStopped u = (x : Lack) × (lack M u.answers u.state ≡ Some x) × (x ≡ Missing → u.inbox ≡ [])

  -- the lowest update that isn't over stops, if there is one
  abbrev IsResting : List (Update M) → Type 0
  IsResting [] = Unit {0}
  IsResting (u ∷ us) = (is_over M u ≡ false → IsStopped u) × (is_over M u ≡ true → IsResting us)

  resting : (us : List (Update M)) → ((k : ℕ) (u : Update M) → slice_get us k ≡ Some u → k ≡ committed M us → is_over M u ≡ false → IsStopped u) → IsResting us
  resting [] h = tt
  resting (u ∷ us) h = (
    λ o. h 0 u refl (sym (if_false (is_over M u) (suc (committed M us)) 0 o)) o,
    λ o. resting us (λ k v f e g. h (suc k) v f (ap suc e ∙ sym (if_true (is_over M u) (suc (committed M us)) 0 o)) g),
  )

  -- a quiet list rests
  quiet_rests : (s : Settings) (us : List (Update M)) → is_quiet M s us ≡ true → IsResting us
  quiet_rests s us q =
      resting us (λ k u f e o.
      let p = and_parts _ _ q in
      let n : 1 + k ≡ suc k = omega arith in
      let c : ℕ = committed M us in
      let ready : is_ready (standing M s c (suc k) u) ≡ false = ap (λ m. is_ready (standing M s c m u)) (sym n) ∙ none_that (λ m v. is_ready (standing M s c m v)) 1 k us u (none_is (lowest_ready M s us) p.0) f in
      let still : is_deliverable M s c (suc k) u ≡ false = ap (λ m. is_deliverable M s c m u) (sym n) ∙ none_that (λ m v. is_deliverable M s c m v) 1 k us u (none_is (lowest_deliverable M s us) p.1) f in
      let parts = or_parts _ _ o in
      let free : is_held M s c (suc k) u ≡ false = and_right (nat_lt s.retries u.attempt) (nat_lt (suc c) (suc k)) (le-ltb (suc c) (suc k) (omega (arith, e))) in
      stopped_is u.withdrawn (M.outcome u.state) (is_held M s c (suc k) u) (lack M u.answers u.state) (suc c) u.inbox parts.0 (none_from (M.outcome u.state) parts.1) free ready still)

  -- the update, as though the inbox were delivered
  abbrev full : Update M → Update M
  full u = record { operation = u.operation; attempt = u.attempt; state = u.state; log = u.log; withdrawn = u.withdrawn; answers = u.answers ++ u.inbox; inbox = [] }

  full_run : (D : M.Repository) (n : ℕ) (u : Update M) → IsRun M D n u → IsRun M D n (full u)
  full_run D n u r = record { present = λ w. answers_kept M L (u.answers ++ u.inbox) (r.present w) (λ k c l f. longer_keeps u.answers u.inbox k c f); gone = r.gone }

  full_lack : (u : Update M) (x : Lack) → lack M u.answers u.state ≡ Some x → (x ≡ Missing → u.inbox ≡ []) → lack M (u.answers ++ u.inbox) u.state ≡ Some x
  full_lack u Missing e h = ap (λ bs. lack M bs u.state) (ap (λ bs. u.answers ++ bs) (h refl) ∙ append-nil u.answers) ∙ e
  full_lack u Misfit e h = sym (same_lack M L u.answers (u.answers ++ u.inbox) u.state (λ g. misfit_missing (sym e ∙ g)) (λ q c f. longer_keeps u.answers u.inbox (M.taken u.state) c f)).1 ∙ e

  stops_now : (D : M.Repository) (u : Update M) (x : Lack) (k : ℕ) → 1 ≤ k → M.outcome u.state ≡ None → lack M (u.answers ++ u.inbox) u.state ≡ Some x → run M u.operation D (u.answers ++ u.inbox) k u.state ≡ Stops u.state x
  stops_now D u x zero h o e = absurd (omega arith)
  stops_now D u x (suc k) h o e =
      if_false (is_some (M.outcome u.state)) (Ends u.state) (go_on M (run M u.operation D (u.answers ++ u.inbox) k) u.state (next_state M u.operation D (u.answers ++ u.inbox) u.state) (lack M (u.answers ++ u.inbox) u.state)) (ap (λ y. is_some y) o)
      ∙ ap (λ y. go_on M (run M u.operation D (u.answers ++ u.inbox) k) u.state (next_state M u.operation D (u.answers ++ u.inbox) u.state) y) e

  stopped_whole : (D : M.Repository) (n : ℕ) (u : Update M) (x : Lack) → IsRun M D n u → u.withdrawn ≡ false → M.outcome u.state ≡ None → lack M (u.answers ++ u.inbox) u.state ≡ Some x
      → whole M D record { number = n; attempt = u.attempt; operation = u.operation; answers = u.answers ++ u.inbox } ≡ Stops u.state x
  stopped_whole D n u x r w o e =
      let some : suc (M.count u.state) ≤ M.budget = (counted M L (r.present w)).1 o in
      let f : M.budget ≡ M.count u.state + (M.budget - M.count u.state) = omega arith in
      ap (λ i. run M u.operation D (u.answers ++ u.inbox) i (M.begin n u.attempt u.operation)) f
      ∙ run_to M L ((full_run D n u r).present w) (M.budget - M.count u.state)
      ∙ stops_now D u x (M.budget - M.count u.state) (omega arith) o e

  rest_is : (D : M.Repository) (n : ℕ) (us : List (Update M)) → AreRuns M D n us → IsResting us → serial M D (all_turns M n us) ≡ record { finishes = committed_finishes M n us; stop = first_stop M n us; repository = below M D us (committed M us) }
  rest_is D n [] r q = λ i. record { finishes = []; stop = None; repository = sym (L.apply_none D) i }
  rest_is D n (u ∷ us) r q =
      let ts : List (Turn M) = all_turns M (suc n) us in
      let next : is_over M u ≡ true → serial M (M.apply D (trail M u)) ts ≡ record { finishes = committed_finishes M (suc n) us; stop = first_stop M (suc n) us; repository = below M D (u ∷ us) (suc (committed M us)) }
      = λ o. rest_is (M.apply D (trail M u)) (suc n) us r.1 (q.1 o) ∙ (λ i. record { finishes = committed_finishes M (suc n) us; stop = first_stop M (suc n) us; repository = below_next M L D u us (committed M us) i }) in
      four (λ xs fs p c. serial M D xs ≡ record { finishes = fs; stop = p; repository = below M D (u ∷ us) c })
      u.withdrawn (is_some (M.outcome u.state)) _ _ _ _ _ _ (committed M us)
      (λ w. ap (λ F. serial M F ts) (sym (ap (λ ws. M.apply D ws) (if_true u.withdrawn [] (shown M u.state) w) ∙ L.apply_none D)) ∙ next (or_left _ _ w))
      (λ w h. ap (after_turn M (λ E. serial M E ts) n D) (whole_is M L D n (full u) (full_run D n u r.0) w h)
      ∙ ap (λ ws. with_finish M n u.state (serial M (M.apply D ws) ts)) (sym (if_false u.withdrawn [] (shown M u.state) w))
      ∙ ap (with_finish M n u.state) (next (or_right _ _ h)))
      (λ w h. let x = q.0 (or_from _ _ w h) in
      ap (after_turn M (λ E. serial M E ts) n D) (stopped_whole D n u x.0 r.0 w (none_from (M.outcome u.state) h) (full_lack u x.0 x.1 x.2))
      ∙ (λ i. record { finishes = []; stop = stop_at M n u.state (sym x.1 i); repository = sym (L.apply_none D) i }))

  pub quiet_is : (s : Settings) (D : M.Repository) (us : List (Update M)) → AreRuns M D 1 us → is_quiet M s us ≡ true → serial M D (all_turns M 1 us) ≡ record { finishes = committed_finishes M 1 us; stop = first_stop M 1 us; repository = below M D us (committed M us) }
  quiet_is s D us r q = rest_is D 1 us r (quiet_rests s us q)
