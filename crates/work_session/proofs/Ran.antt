-- A desk whose workers have ended.
use Rattle.std.proofs.Common.{◌≡◌, sym, subst, List, Result, Ok, Err}
use Rattle.std.specs.Prelude.{All, OnOk}
use Rattle.def_history.specs.Cores.{Ground, IsLegalOver}
use Rattle.def_history.specs.PlainEntries.{PlainEntry}
use Rattle.work_desk.specs.declared.desk.Desk.{Desk}
use Rattle.work_desk.specs.Seats.{DeskSeat, core_of, IsResting}
use Rattle.work_desk.specs.Closing.{AllResting, IsWhole, Ends}
use Rattle.work_desk.proofs.Dealing.{of_all}

-- seats at rest
all_rest : (seats : List DeskSeat) → All IsResting seats → AllResting seats
all_rest seats rest k s at = of_all IsResting seats k s rest at

module _ {C S P : Type 0} (over : C → Ground) (history : C → List PlainEntry) (d : Desk C S P) where
  -- what the desk's end says of the core that it was opened over
  pub ended : (core : C) (K : List PlainEntry) (seats : List DeskSeat) → core_of d ≡ core
      → (IsLegalOver (over (core_of d)) (history (core_of d)) → IsWhole (over (core_of d)) (history (core_of d)) → AllResting seats → Ends (over (core_of d)) (history (core_of d)) K)
      → All IsResting seats → IsLegalOver (over core) (history core) → IsWhole (over core) (history core) → Ends (over core) (history core) K
  ended core K seats e ends rest legal whole =
      subst (λ (x : C). Ends (over x) (history x) K) e
      (ends (subst (λ (x : C). IsLegalOver (over x) (history x)) (sym e) legal) (subst (λ (x : C). IsWhole (over x) (history x)) (sym e) whole) (all_rest seats rest))

-- what an Ok tells
pub told : {A E : Type 0} (r : Result A E) (x : A) (P : Type 0) → r ≡ Ok x → OnOk r P → P
told (Ok y) x P e h = h
told (Err y) x P e h = absurd (cc e)
