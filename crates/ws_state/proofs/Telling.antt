-- What is told of a line.
use Rattle.std.proofs.Common.{◌≡◌, sym, subst, Option, None}
use Rattle.std.specs.Prelude.{Result, Ok, Err, OnOk, IfOk, IfSome}
use Rattle.ws_run.specs.declared.halts.Reason.{Reason}
use Rattle.ws_state.specs.declared.states.State.{State}
use Rattle.ws_state.specs.declared.states.Told.{Told}
use Rattle.ws_state.specs.Stands.{what_stood, HasGoneOn}

-- The reason that is told is that of the run.
pub waits_told : (q r : Option Reason) (P : Type 0) → r ≡ q → IfSome q (λ _. P) → IfSome r (λ _. P)
waits_told q r P e p = subst (λ (o : Option Reason). IfSome o (λ _. P)) (sym e) p

-- Where no reason is told, nothing waits.
pub none_told : {E : Type 0} (r : Result Told E) (P : Type 0) → IfOk r (λ told. told.reason ≡ None) → IfOk r (λ told. IfSome told.reason (λ _. P))
none_told (Ok x) P e = waits_told None x.reason P e tt
none_told (Err m) P e = tt

-- What has gone on keeps what stood at the fold.
pub fold_told : {E : Type 0} (r : Result Told E) (s t : State) → OnOk r (HasGoneOn s t) → OnOk r (what_stood t ≡ what_stood s)
fold_told (Ok x) s t g = g.fold
fold_told (Err m) s t g = tt

pub any_told : {E : Type 0} (r : Result Told E) → OnOk r (Unit {0})
any_told (Ok x) = tt
any_told (Err m) = tt
