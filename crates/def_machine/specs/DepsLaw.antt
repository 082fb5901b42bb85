-- Precise dependences are among the coarse ones.
use Rattle.std.specs.Prelude.{◌≡◌, ℕ, suc, true, List, Some, slice_get}
use Rattle.def_machine.specs.Machine.{Machine}
use Rattle.def_machine.specs.Updates.{Update, Session, Settings, Deps, Precise, Coarse}
use Rattle.def_machine.specs.Cascade.{has_number, readers}
use Rattle.def_machine.specs.Effects.{Event, Effect, effect}
use Rattle.def_machine.specs.Histories.{Log, empty_log, after, causes_in}

-- The settings of K retries and this kind of dependence.
abbrev pub with_deps : ℕ → Deps → Settings
with_deps K deps = record { retries = K; deps = deps }

-- After any history, each update that an event restarts with precise dependences is also restarted with coarse ones.
abbrev pub DepsLaw : Machine → Type 0
DepsLaw M =
    (s : Settings) (S : Session M) (es : List (Event M)) (l : Log M) (e : Event M) (x y : Effect M) → M.Sound S.base
    → after M s S (empty_log M) es ≡ Some l
    → effect M (with_deps s.retries Precise) S l.updates e ≡ Some x
    → effect M (with_deps s.retries Coarse) S l.updates e ≡ Some y
    → (k : ℕ) (u : Update M) → slice_get l.updates k ≡ Some u → has_number (readers (causes_in x.entry)) (suc k) ≡ true
    → has_number (readers (causes_in y.entry)) (suc k) ≡ true
