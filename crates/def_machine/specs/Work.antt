-- The work that is left: it falls with every step and every delivery, so runs of steps and deliveries end.
use Rattle.std.specs.Prelude.{◌≡◌, ℕ, suc, ◌≤◌, ◌+◌, List, Some}
use Rattle.def_machine.specs.Machine.{Machine}
use Rattle.def_machine.specs.Updates.{Update, Session, Settings}
use Rattle.def_machine.specs.Effects.{Event, Steps, Delivers, Effect, effect}
use Rattle.def_machine.specs.Histories.{Log, empty_log, after}
use Rattle.def_machine.specs.Bounds.{left, waiting}

-- The number of steps that are left to the updates, plus the number of answers that wait in their inboxes.
abbrev pub work : (M : Machine) → Settings → List (Update M) → ℕ
work M s us = left M s.retries us + waiting M us

-- Each step and each delivery lowers the work.
pub record IsLess (M : Machine) (s : Settings) (S : Session M) (us : List (Update M)) : Type 0 where
  pub steps : (i : ℕ) (x : Effect M) → effect M s S us (Steps i) ≡ Some x → suc (work M s x.updates) ≤ work M s us
  pub delivers : (i : ℕ) (x : Effect M) → effect M s S us (Delivers i) ≡ Some x → suc (work M s x.updates) ≤ work M s us

-- This holds after any history.
abbrev pub WorkLaw : Machine → Type 0
WorkLaw M =
    (s : Settings) (S : Session M) (es : List (Event M)) (l : Log M) → M.Sound S.base
    → after M s S (empty_log M) es ≡ Some l → IsLess M s S l.updates
