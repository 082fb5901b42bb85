-- The life of a core: what its calls make of it, and that what it commits is serial.
use Rattle.std.specs.Prelude.{◌≡◌, ◌⊎◌, ℕ, zero, suc, ◌≤◌, List, length, None}
use Rattle.core_laws.specs.Live.{IsOfSession, IsSerialOver}
use Rattle.def_chase.specs.Updates.{Operation}
use Rattle.def_chase.specs.Values.{Fact}
use Rattle.def_history.specs.AnyOrder.{serially}
use Rattle.def_history.specs.Cores.{Ground, machine}
use Rattle.def_language.specs.Sessions.{RelationSchema, SessionData}
use Rattle.def_language.specs.Validity.{IsSession}
use Rattle.def_machine.specs.Effects.{Event}
use Rattle.def_machine.specs.Serial.{committed_turns}
use Rattle.def_machine.specs.Updates.{Settings}
use Rattle.lang_session.specs.Base.{base_violation}
use Rattle.core_engine.specs.Events.{HasMade}
use Rattle.core_engine.specs.LiveCalls.{HasAdmitted}
use Rattle.core_engine.specs.States.{State, opened, updates_at}

-- What a history is over came of a session with these relations. The session passed its checks, its base violates no mapping, and
-- its relations admitted each update that was handed in later.
pub record CameOf (relations : List RelationSchema) (g : Ground) : Type 0 where
  pub session : SessionData
  pub of : IsOfSession session g
  pub same : session.relations ≡ relations

-- What the committed updates leave if the serial machine takes them alone, each whole, in number order, with the answers delivered
-- to them.
abbrev pub serially_left : State → List Fact
serially_left s = (serially s.over.rules s.over.budget s.over.base (committed_turns (machine s.over) 1 (updates_at s))).repository

-- A call changed the core: it made an event, such as a step, a delivery, an answer or a withdrawal, or it admitted one more
-- update.
abbrev pub HasChanged : State → State → Type 0
HasChanged old new = ((e : Event (machine old.over)) × HasMade old e new) ⊎ ((op : Operation) × HasAdmitted old op new)

-- Some number of calls changed the core, one after the other.
abbrev pub HasLived : ℕ → State → State → Type 0
HasLived zero old new = old ≡ new
HasLived (suc n) old new = (mid : State) × HasChanged old mid × HasLived n mid new

-- A core was opened on a session that passed its checks, and whose base violates no mapping, and changed by any calls. What it
-- commits is serial.
abbrev pub LiveCoresAreSerial : Type 0
LiveCoresAreSerial =
    (s : SessionData) (budget : ℕ) (c : Settings) (n : ℕ) (core : State) → IsSession s → base_violation s ≡ None → 1 ≤ budget
    → HasLived n (opened s budget c (length s.updates)) core → IsSerialOver core.over core.history
