-- Serial runs of two machines that step alike go the same way; what a turn comes to.
use Rattle.std.proofs.Common.{◌≡◌, ℕ, zero, suc, ◌≤◌, ◌+◌, ap, sym, refl, subst, ◌∙◌, List, [], ◌∷◌, ◌++◌, Bool, true, false, Some, None, arith}
use Rattle.std.specs.Prelude.{if◌then◌else◌, Option, is_some}
use Rattle.std.proofs.lemmas.Bool.{both_ways}
use Rattle.std.proofs.lemmas.Option.{none-some, same_Some}
use Rattle.def_machine.proofs.Basics.{none_from}
use Rattle.def_machine.specs.Machine.{Machine, Laws}
use Rattle.def_machine.specs.Updates.{Read, shown}
use Rattle.def_machine.specs.Standings.{Lack, lack}
use Rattle.def_machine.specs.Steps.{next_move, next_state, step_log}
use Rattle.def_machine.specs.Runs.{Reached, start, more}
use Rattle.def_machine.specs.Serial.{Rest, Ends, Stops, go_on, run, Turn, whole, after_turn, serial}
use Rattle.def_machine.specs.Rests.{IsRest, RestLaw}
use Rattle.def_machine.specs.Simulation.{Simulation, AreTurns, AreResults}
use Rattle.def_machine.proofs.Serials.{counted}

module _ (M : Machine) (L : Laws M) where
  -- k steps are enough where no more are left
  rest_of_run : (D : M.Repository) (t : Turn M) (k : ℕ) (P : M.State) (log : List (Read M)) → M.budget ≤ M.count P + k → Reached M D t.answers t.number t.attempt t.operation P log → IsRest M D t (run M t.operation D t.answers k P)
  rest_of_run D t zero P log h r = (record { log = log; reached = r; few = (counted M L r).0 }, by (M.outcome P) refl)
    where
      by : (o : Option _) → M.outcome P ≡ o → is_some o ≡ true
      by (Some x) e = refl
      by None e = let c : suc (M.count P) ≤ M.budget = (counted M L r).1 e in absurd (omega arith)
  rest_of_run D t (suc k) P log h r = by (M.outcome P) refl (lack M t.answers P) refl (λ o e. rest_of_run D t k (next_state M t.operation D t.answers P) (log ++ step_log M t.operation D t.answers P) (omega (arith, h, L.moved_count P (next_move M t.operation D t.answers P))) (more r o e))
    where
      by : (o : Option _) → M.outcome P ≡ o → (l : Option Lack) → lack M t.answers P ≡ l
          → (M.outcome P ≡ None → lack M t.answers P ≡ None → IsRest M D t (run M t.operation D t.answers k (next_state M t.operation D t.answers P)))
          → IsRest M D t (if is_some o then Ends P else go_on M (run M t.operation D t.answers k) P (next_state M t.operation D t.answers P) l)
      by (Some x) e l f rec = (record { log = log; reached = r; few = (counted M L r).0 }, ap (λ y. is_some y) e)
      by None e (Some x) f rec = (record { log = log; reached = r; few = (counted M L r).0 }, e, f)
      by None e None f rec = rec e f

  pub rest_law : RestLaw M
  rest_law D t = rest_of_run D t M.budget (M.begin t.number t.attempt t.operation) [] (omega arith) start

-- related rests of two turns
abbrev pub AreRests : {M K : Machine} → Simulation M K → Turn M → Turn K → M.Repository → K.Repository → Rest M → Rest K → Type 0
AreRests R t s D E (Ends P) (Ends Q) = R.States t s D E P Q
AreRests R t s D E (Stops P l) (Stops Q m) = R.States t s D E P Q × (l ≡ m)
AreRests R t s D E (Ends P) (Stops Q m) = ⊥
AreRests R t s D E (Stops P l) (Ends Q) = ⊥

module _ (M K : Machine) (L : Laws M) (R : Simulation M K) where
  run_alike : (t : Turn M) (s : Turn K) (D : M.Repository) (E : K.Repository) (k : ℕ) (P : M.State) (Q : K.State) → R.States t s D E P Q → AreRests R t s D E (run M t.operation D t.answers k P) (run K s.operation E s.answers k Q)
  run_alike t s D E zero P Q r = r
  run_alike t s D E (suc k) P Q r = by (is_some (M.outcome P)) (is_some (K.outcome Q)) refl (R.ended t s D E P Q r) (lack M t.answers P) (lack K s.answers Q) refl (λ o. R.lacks t s D E P Q r o)
      (λ o e. run_alike t s D E k (next_state M t.operation D t.answers P) (next_state K s.operation E s.answers Q) (R.step t s D E P Q r o e))
    where
      by : (b c : Bool) → is_some (M.outcome P) ≡ b → is_some (M.outcome P) ≡ c → (l m : Option Lack) → lack M t.answers P ≡ l → (M.outcome P ≡ None → lack M t.answers P ≡ m)
          → (M.outcome P ≡ None → lack M t.answers P ≡ None → AreRests R t s D E (run M t.operation D t.answers k (next_state M t.operation D t.answers P)) (run K s.operation E s.answers k (next_state K s.operation E s.answers Q)))
          → AreRests R t s D E (if b then Ends P else go_on M (run M t.operation D t.answers k) P (next_state M t.operation D t.answers P) l) (if c then Ends Q else go_on K (run K s.operation E s.answers k) Q (next_state K s.operation E s.answers Q) m)
      by true true e f l m g h rec = r
      by true false e f l m g h rec = absurd (both_ways _ f e)
      by false true e f l m g h rec = absurd (both_ways _ e f)
      by false false e f None None g h rec = rec (none_from (M.outcome P) e) g
      by false false e f (Some x) (Some y) g h rec = (r, same_Some x y (sym g ∙ h (none_from (M.outcome P) e)))
      by false false e f None (Some y) g h rec = absurd (none-some y (sym g ∙ h (none_from (M.outcome P) e)))
      by false false e f (Some x) None g h rec = absurd (none-some x (sym (h (none_from (M.outcome P) e)) ∙ g))

  whole_alike : (t : Turn M) (s : Turn K) (D : M.Repository) (E : K.Repository) → R.Turns t s → R.Repositories t.number D E → AreRests R t s D E (whole M D t) (whole K E s)
  whole_alike t s D E h r =
      subst (λ k. AreRests R t s D E (whole M D t) (run K s.operation E s.answers k (K.begin s.number s.attempt s.operation))) R.budget
      (run_alike t s D E M.budget (M.begin t.number t.attempt t.operation) (K.begin s.number s.attempt s.operation) (R.begin t s D E h r))

  pub serial_alike : (n : ℕ) (ts : List (Turn M)) (ss : List (Turn K)) (D : M.Repository) (E : K.Repository) → AreTurns R n ts ss → R.Repositories n D E → AreResults R (serial M D ts) (serial K E ss)
  serial_alike n [] [] D E h r = record { finishes = tt; stop = tt; last = n; repository = r }
  serial_alike n [] (s ∷ ss) D E h r = absurd h
  serial_alike n (t ∷ ts) [] D E h r = absurd h
  serial_alike n (t ∷ ts) (s ∷ ss) D E h r =
      let here : R.Repositories t.number D E = R.later n t.number D E h.0 r in
      by (whole M D t) (whole K E s) (whole_alike t s D E h.1 here) (rest_law M L D t) here
      (λ P Q q o. serial_alike (suc t.number) ts ss (M.apply D (shown M P)) (K.apply E (shown K Q)) h.2 (R.leave t s D E P Q here q o))
    where
      by : (x : Rest M) (y : Rest K) → AreRests R t s D E x y → IsRest M D t x → R.Repositories t.number D E
          → ((P : M.State) (Q : K.State) → R.States t s D E P Q → is_some (M.outcome P) ≡ true → AreResults R (serial M (M.apply D (shown M P)) ts) (serial K (K.apply E (shown K Q)) ss))
          → AreResults R (after_turn M (λ F. serial M F ts) t.number D x) (after_turn K (λ F. serial K F ss) s.number E y)
      by (Ends P) (Ends Q) q o here rec =
          let rest = rec P Q q o.1 in
          record { finishes = (R.number t s h.1, record { turn = t; other = s; base = D; other_base = E; turns = h.1; bases = here; states = q }, rest.finishes); stop = rest.stop; last = rest.last; repository = rest.repository }
      by (Stops P l) (Stops Q m) q o here rec =
          record { finishes = tt; stop = (R.number t s h.1, record { turn = t; other = s; base = D; other_base = E; turns = h.1; bases = here; states = q.0 }, q.1); last = t.number; repository = here }
      by (Ends P) (Stops Q m) q o here rec = absurd q
      by (Stops P l) (Ends Q) q o here rec = absurd q
