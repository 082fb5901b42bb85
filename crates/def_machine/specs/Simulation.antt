-- Two machines whose serial runs correspond step by step, such as runs with other attempt numbers, or with another way to answer
-- queries.
use Rattle.std.specs.Prelude.{◌≡◌, ℕ, suc, ◌≤◌, true, List, [], ◌∷◌, Option, Some, None, is_some}
use Rattle.def_machine.specs.Machine.{Machine}
use Rattle.def_machine.specs.Updates.{shown}
use Rattle.def_machine.specs.Standings.{lack}
use Rattle.def_machine.specs.Steps.{next_state}
use Rattle.def_machine.specs.Serial.{Turn, Finish, Stop, Result}

-- Relations of turns, of repositories below a number, and of states that two turns reach over two repositories. A step of related
-- states leads to related states, and related ends leave related repositories.
pub record Simulation (M K : Machine) : Type 1 where
  pub Turns : Turn M → Turn K → Type 0
  pub Repositories : ℕ → M.Repository → K.Repository → Type 0
  pub States : Turn M → Turn K → M.Repository → K.Repository → M.State → K.State → Type 0
  pub budget : M.budget ≡ K.budget
  pub number : (t : Turn M) (s : Turn K) → Turns t s → t.number ≡ s.number
  pub begin : (t : Turn M) (s : Turn K) (D : M.Repository) (E : K.Repository) → Turns t s → Repositories t.number D E
      → States t s D E (M.begin t.number t.attempt t.operation) (K.begin s.number s.attempt s.operation)
  pub ended : (t : Turn M) (s : Turn K) (D : M.Repository) (E : K.Repository) (P : M.State) (Q : K.State)
      → States t s D E P Q → is_some (M.outcome P) ≡ is_some (K.outcome Q)
  pub lacks : (t : Turn M) (s : Turn K) (D : M.Repository) (E : K.Repository) (P : M.State) (Q : K.State)
      → States t s D E P Q → M.outcome P ≡ None → lack M t.answers P ≡ lack K s.answers Q
  pub step : (t : Turn M) (s : Turn K) (D : M.Repository) (E : K.Repository) (P : M.State) (Q : K.State)
      → States t s D E P Q → M.outcome P ≡ None → lack M t.answers P ≡ None
      → States t s D E (next_state M t.operation D t.answers P) (next_state K s.operation E s.answers Q)
  pub leave : (t : Turn M) (s : Turn K) (D : M.Repository) (E : K.Repository) (P : M.State) (Q : K.State)
      → Repositories t.number D E → States t s D E P Q → is_some (M.outcome P) ≡ true
      → Repositories (suc t.number) (M.apply D (shown M P)) (K.apply E (shown K Q))
  pub later : (n m : ℕ) (D : M.Repository) (E : K.Repository) → n ≤ m → Repositories n D E → Repositories m D E

-- Related turns, pair by pair, in the order of their numbers from n on.
abbrev pub AreTurns : {M K : Machine} → Simulation M K → ℕ → List (Turn M) → List (Turn K) → Type 0
AreTurns R n [] [] = Unit {0}
AreTurns R n (t ∷ ts) (s ∷ ss) = (n ≤ t.number) × R.Turns t s × AreTurns R (suc t.number) ts ss
AreTurns R n [] (s ∷ ss) = ⊥
AreTurns R n (t ∷ ts) [] = ⊥

-- Related states, which related turns reach over related repositories.
pub record AreStates {M K : Machine} (R : Simulation M K) (P : M.State) (Q : K.State) : Type 0 where
  pub turn : Turn M
  pub other : Turn K
  pub base : M.Repository
  pub other_base : K.Repository
  pub turns : R.Turns turn other
  pub bases : R.Repositories turn.number base other_base
  pub states : R.States turn other base other_base P Q

-- Finishes of the same numbers, with related states.
abbrev pub AreFinishes : {M K : Machine} → Simulation M K → List (Finish M) → List (Finish K) → Type 0
AreFinishes R [] [] = Unit {0}
AreFinishes R (p ∷ ps) (q ∷ qs) = (p.number ≡ q.number) × AreStates R p.state q.state × AreFinishes R ps qs
AreFinishes R [] (q ∷ qs) = ⊥
AreFinishes R (p ∷ ps) [] = ⊥

-- No stops, or stops of the same number with related states and the same lack.
abbrev pub AreStops : {M K : Machine} → Simulation M K → Option (Stop M) → Option (Stop K) → Type 0
AreStops R None None = Unit {0}
AreStops R (Some p) (Some q) = (p.number ≡ q.number) × AreStates R p.state q.state × (p.lack ≡ q.lack)
AreStops R None (Some q) = ⊥
AreStops R (Some p) None = ⊥

-- Results with related finishes, stops and repositories.
pub record AreResults {M K : Machine} (R : Simulation M K) (r : Result M) (q : Result K) : Type 0 where
  pub finishes : AreFinishes R r.finishes q.finishes
  pub stop : AreStops R r.stop q.stop
  pub last : ℕ
  pub repository : R.Repositories last r.repository q.repository
