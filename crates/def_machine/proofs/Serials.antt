-- What the committed updates leave is what the serial machine leaves.
use Rattle.std.proofs.Common.{◌≡◌, ℕ, zero, suc, ◌≤◌, ◌+◌, ◌-◌, ap, sym, refl, ◌∙◌, List, [], ◌∷◌, Bool, true, false, ◌||◌, arith, None}
use Rattle.std.specs.Prelude.{if◌then◌else◌, Option, is_some}
use Rattle.def_machine.specs.Machine.{Machine, Laws}
use Rattle.def_machine.specs.Updates.{Read, Update, shown, trail, committed, below}
use Rattle.def_machine.specs.Standings.{lack}
use Rattle.def_machine.specs.Steps.{next_state, next_move}
use Rattle.def_machine.specs.Runs.{Reached, start, more, IsRun, AreRuns}
use Rattle.def_machine.specs.Serial.{Ends, go_on, run, Turn, whole, with_finish, after_turn, serial, committed_turns, committed_finishes}
use Rattle.def_machine.proofs.Basics.{if_true, if_false}
use Rattle.def_machine.proofs.Places.{below_next}

is_some_none : {A : Type 0} (o : Option A) → o ≡ None → is_some o ≡ false
is_some_none o h = ap (λ x. is_some x) h

module _ (M : Machine) (L : Laws M) where
  pub counted : {D : M.Repository} {answers : List M.Choice} {n a : ℕ} {op : M.Operation} {P : M.State} {log : List (Read M)} → Reached M D answers n a op P log → (M.count P ≤ M.budget) × (M.outcome P ≡ None → suc (M.count P) ≤ M.budget)
  counted {n} {a} {op} start = (omega (arith, L.begin_count n a op), λ h. omega (arith, L.begin_count n a op, L.some_budget))
  counted {D} {answers} {op} (more {P} r going able) =
      let c : suc (M.count P) ≤ M.budget = (counted r).1 going in
      (omega (arith, L.moved_count P (next_move M op D answers P)), λ h. L.bounded P (next_move M op D answers P) c h)

  pub run_to : {D : M.Repository} {answers : List M.Choice} {n a : ℕ} {op : M.Operation} {P : M.State} {log : List (Read M)} → Reached M D answers n a op P log → (k : ℕ) → run M op D answers (M.count P + k) (M.begin n a op) ≡ run M op D answers k P
  run_to {D} {answers} {n} {a} {op} start k =
      let e : M.count (M.begin n a op) + k ≡ k = omega (arith, L.begin_count n a op) in
      ap (λ i. run M op D answers i (M.begin n a op)) e
  run_to {D} {answers} {n} {a} {op} (more {P} r going able) k =
      let f : M.count (next_state M op D answers P) + k ≡ M.count P + suc k = omega (arith, L.moved_count P (next_move M op D answers P)) in
      ap (λ i. run M op D answers i (M.begin n a op)) f ∙ run_to r (suc k)
      ∙ if_false (is_some (M.outcome P)) (Ends P) (go_on M (run M op D answers k) P (next_state M op D answers P) (lack M answers P)) (is_some_none (M.outcome P) going)
      ∙ ap (λ x. go_on M (run M op D answers k) P (next_state M op D answers P) x) able

  run_ended : (op : M.Operation) (D : M.Repository) (answers : List M.Choice) (k : ℕ) (P : M.State) → is_some (M.outcome P) ≡ true → run M op D answers k P ≡ Ends P
  run_ended op D answers zero P h = refl
  run_ended op D answers (suc k) P h = if_true (is_some (M.outcome P)) (Ends P) _ h

  pub whole_is : (D : M.Repository) (n : ℕ) (u : Update M) → IsRun M D n u → u.withdrawn ≡ false → is_some (M.outcome u.state) ≡ true → whole M D record { number = n; attempt = u.attempt; operation = u.operation; answers = u.answers } ≡ Ends u.state
  whole_is D n u r w h =
      let few : M.count u.state ≤ M.budget = (counted (r.present w)).0 in
      let e : M.budget ≡ M.count u.state + (M.budget - M.count u.state) = omega arith in
      ap (λ i. run M u.operation D u.answers i (M.begin n u.attempt u.operation)) e
      ∙ run_to (r.present w) (M.budget - M.count u.state) ∙ run_ended u.operation D u.answers _ u.state h

  -- ---- the committed updates

  three : {A B : Type 0} (P : List A → List B → ℕ → Type 0) (w e : Bool) (a a' : List A) (b b' : List B) (c : ℕ)
      → (w ≡ true → P a b (suc c)) → (w ≡ false → e ≡ true → P a' b' (suc c)) → P [] [] 0
      → P (if w || e then (if w then a else a') else []) (if w || e then (if w then b else b') else []) (if w || e then suc c else 0)
  three P true e a a' b b' c f g h = f refl
  three P false true a a' b b' c f g h = g refl refl
  three P false false a a' b b' c f g h = h

  pub serial_is : (D : M.Repository) (n : ℕ) (us : List (Update M)) → AreRuns M D n us → serial M D (committed_turns M n us) ≡ record { finishes = committed_finishes M n us; stop = None; repository = below M D us (committed M us) }
  serial_is D n [] r = λ i. record { finishes = []; stop = None; repository = sym (L.apply_none D) i }
  serial_is D n (u ∷ us) r =
      let ts : List (Turn M) = committed_turns M (suc n) us in
      let next : serial M (M.apply D (trail M u)) ts ≡ record { finishes = committed_finishes M (suc n) us; stop = None; repository = below M D (u ∷ us) (suc (committed M us)) }
      = serial_is (M.apply D (trail M u)) (suc n) us r.1 ∙ (λ i. record { finishes = committed_finishes M (suc n) us; stop = None; repository = below_next M L D u us (committed M us) i }) in
      three (λ xs fs c. serial M D xs ≡ record { finishes = fs; stop = None; repository = below M D (u ∷ us) c })
      u.withdrawn (is_some (M.outcome u.state)) _ _ _ _ (committed M us)
      (λ w. ap (λ F. serial M F ts) (sym (ap (λ ws. M.apply D ws) (if_true u.withdrawn [] (shown M u.state) w) ∙ L.apply_none D)) ∙ next)
      (λ w e. ap (after_turn M (λ E. serial M E ts) n D) (whole_is D n u r.0 w e)
      ∙ ap (λ ws. with_finish M n u.state (serial M (M.apply D ws) ts)) (sym (if_false u.withdrawn [] (shown M u.state) w))
      ∙ ap (with_finish M n u.state) next)
      (λ i. record { finishes = []; stop = None; repository = sym (L.apply_none D) i })
