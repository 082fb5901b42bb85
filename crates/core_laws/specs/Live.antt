-- A session to which further updates were admitted while others went on, and what the theorem on histories says of it.
use Rattle.std.specs.Prelude.{◌≡◌, ℕ, ◌≤◌, true, List, [], ◌∷◌, None}
use Rattle.def_machine.specs.Updates.{Settings}
use Rattle.def_chase.specs.Updates.{Operation}
use Rattle.def_history.specs.Admissible.{IsAdmissible}
use Rattle.def_history.specs.AnyOrder.{IsSerial}
use Rattle.def_history.specs.CoreLaws.{handed}
use Rattle.def_history.specs.Cores.{Ground, session_over, entries_over, updates_after, IsLegalOver}
use Rattle.def_history.specs.PlainEntries.{PlainEntry}
use Rattle.def_language.specs.Sessions.{RelationSchema, SessionData}
use Rattle.def_language.specs.Checks.{rules_of}
use Rattle.def_language.specs.Validity.{IsSession}
use Rattle.lang_session.specs.Admissible.{admits}
use Rattle.lang_session.specs.Base.{base_violation}
use Rattle.lang_session.specs.Meanings.{requests_in}

-- Over these relations each of the operations may be admitted after some number of updates.
abbrev pub AreAdmitted : List RelationSchema → List Operation → Type 0
AreAdmitted relations [] = Unit {0}
AreAdmitted relations (op ∷ ops) = ((before : ℕ) × (admits relations before op ≡ true)) × AreAdmitted relations ops

-- What the history of a session is over if these updates were admitted later.
abbrev pub over_with : SessionData → ℕ → Settings → List Operation → Ground
over_with s budget c ops = record { rules = rules_of s.mappings; budget = budget; settings = c; base = s.base; requests = requests_in s; later = ops }

-- The history is over this session and over updates admitted later. The session passed its checks, its base violates no
-- mapping, an update may make a step, and the session's own relations admitted each later update.
pub record IsOfSession (s : SessionData) (g : Ground) : Type 0 where
  pub valid : IsSession s
  pub meets : base_violation s ≡ None
  pub some : 1 ≤ g.budget
  pub over : g ≡ over_with s g.budget g.settings g.later
  pub admitted : AreAdmitted s.relations g.later

-- What the theorem on histories says of these entries. Let the serial machine take the committed updates alone, each whole, in
-- number order, with the answers delivered to it: the finishes and the repository are the same.
abbrev pub IsSerialOver : Ground → List PlainEntry → Type 0
IsSerialOver g H = IsSerial g.rules g.budget g.settings (session_over g) (entries_over g H) (updates_after g H)

-- Such a session is one that the theorem on histories is about.
abbrev pub LiveIsAdmissible : Type 0
LiveIsAdmissible = (s : SessionData) (g : Ground) → IsOfSession s g → IsAdmissible g.rules g.budget (session_over g)

-- With one more update that its relations admit, the session stays such a session.
abbrev pub LiveGrows : Type 0
LiveGrows = (s : SessionData) (g : Ground) (before : ℕ) (op : Operation) → IsOfSession s g → admits s.relations before op ≡ true → IsOfSession s (handed g op)

-- Every legal history over such a session is serial.
abbrev pub LiveIsSerial : Type 0
LiveIsSerial = (s : SessionData) (g : Ground) (H : List PlainEntry) → IsOfSession s g → IsLegalOver g H → IsSerialOver g H
