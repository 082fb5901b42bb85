-- What a core is over, and its history, stay those of its session through every call, so what it commits is serial.
use Rattle.std.proofs.Common.{◌≡◌, ◌∙◌, ap, refl, sym, subst, append-nil, ℕ, zero, suc, ◌≤◌, inl, inr, List, [], ◌++◌, length}
use Rattle.std.specs.Prelude.{None, true}
use Rattle.def_chase.specs.Updates.{Operation}
use Rattle.lang_session.specs.Admissible.{admits}
use Rattle.core_engine.specs.Events.{HasMade}
use Rattle.core_engine.specs.LiveCalls.{HasAdmitted}
use Rattle.core_laws.proofs.Growing.{grown_legal, live_grows, live_is_serial}
use Rattle.core_laws.specs.Live.{IsOfSession, IsSerialOver}
use Rattle.def_history.specs.CoreLaws.{handed}
use Rattle.def_history.specs.PlainEntries.{PlainEntry}
use Rattle.def_history.specs.Cores.{Ground, IsLegalOver, machine, session_over}
use Rattle.def_history.proofs.Keeping.{histories_are_kept}
use Rattle.def_language.specs.Sessions.{RelationSchema, SessionData}
use Rattle.def_language.specs.Validity.{IsSession}
use Rattle.def_machine.specs.Effects.{Admits, Event}
use Rattle.def_machine.specs.Updates.{Settings}
use Rattle.def_steps.specs.Serial.{Request}
use Rattle.lang_session.specs.Base.{base_violation}
use Rattle.lang_session.specs.Meanings.{request_of, requests_in}
use Rattle.core_engine.specs.Lives.{CameOf, HasChanged, HasLived, LiveCoresAreSerial}
use Rattle.core_engine.specs.States.{State, admissions_from, ground_of, opened, updates_at}
use Rattle.core_engine.proofs.Following.{mapped_long}
use Rattle.core_engine.proofs.Opening.{all_admitted}

-- The core is over the session and updates that its relations admitted, which are the core's, and its history is legal.
pub record IsLiving (s : SessionData) (core : State) : Type 0 where
  pub of : IsOfSession s core.over
  pub legal : IsLegalOver core.over core.history
  pub same : core.relations ≡ s.relations

-- the admissions of all updates of a session
pub opened_legal : (budget : ℕ) (c : Settings) (s : SessionData) → 1 ≤ budget → IsLegalOver (ground_of s budget c) (admissions_from 1 (length s.updates))
opened_legal budget c s some =
    let g = ground_of s budget c in
    let xs = (session_over g).submissions in
    let requests : length (requests_in s ++ []) ≡ length s.updates = ap (λ (rs : List Request). length rs) (append-nil (requests_in s)) ∙ mapped_long request_of s.updates in
    let many : length xs ≡ length s.updates = mapped_long (λ (r : Request). record { operation = r.operation; answers = r.answers }) (requests_in s ++ []) ∙ requests in
    subst (λ n. IsLegalOver g (admissions_from 1 n)) many (all_admitted g some xs refl).legal

pub opened_living : (budget : ℕ) (c : Settings) (s : SessionData) → IsSession s → base_violation s ≡ None → 1 ≤ budget → IsLiving s (opened s budget c (length s.updates))
opened_living budget c s v meets some =
    record { of = record { valid = v; meets = meets; some = some; over = refl; admitted = tt }; legal = opened_legal budget c s some; same = refl }

-- after an event
event_living : (s : SessionData) (old new : State) (e : Event (machine old.over)) → IsLiving s old → HasMade old e new → IsLiving s new
event_living s old new e l made = record {
  of = subst (IsOfSession s) (sym made.over) l.of;
  legal = subst (λ (g : Ground). IsLegalOver g new.history) (sym made.over) (grown_legal old.over old.history e new.history l.of.some l.legal made.grows);
  same = made.relations ∙ l.same;
}

-- after an admission
admission_living : (s : SessionData) (old new : State) (op : Operation) → IsLiving s old → HasAdmitted old op new → IsLiving s new
admission_living s old new op l made =
    let g = handed old.over op in
    let legal : IsLegalOver g old.history = ((histories_are_kept old.over l.of.some).handing old.history op l.legal).legal in
    let fits : admits s.relations (length (updates_at old)) op ≡ true = ap (λ (rs : List RelationSchema). admits rs (length (updates_at old)) op) (sym l.same) ∙ made.fits in
    record {
      of = subst (IsOfSession s) (sym made.over) (live_grows s old.over (length (updates_at old)) op l.of fits);
      legal = subst (λ (h : Ground). IsLegalOver h new.history) (sym made.over) (grown_legal g old.history Admits new.history l.of.some legal made.grows);
      same = made.relations ∙ l.same;
    }

changed_living : (s : SessionData) (old new : State) → IsLiving s old → HasChanged old new → IsLiving s new
changed_living s old new l (inl m) = event_living s old new m.0 l m.1
changed_living s old new l (inr m) = admission_living s old new m.0 l m.1

lived_living : (s : SessionData) (n : ℕ) (old new : State) → IsLiving s old → HasLived n old new → IsLiving s new
lived_living s zero old new l h = subst (IsLiving s) h l
lived_living s (suc n) old new l h = lived_living s n h.0 new (changed_living s old h.0 l h.1) h.2

pub live_cores : LiveCoresAreSerial
live_cores s budget c n core v meets some lived =
    let l = lived_living s n (opened s budget c (length s.updates)) core (opened_living budget c s v meets some) lived in
    live_is_serial s core.over core.history l.of l.legal

-- A core whose history came of a session is serial.
pub core_serial : {R : List RelationSchema} (g : Ground) (H : List PlainEntry) (s : State) → CameOf R g → IsLegalOver g H → record { over = g; history = H; relations = R } ≡ s → IsSerialOver s.over s.history
core_serial g H s came legal same = subst (λ (t : State). IsSerialOver t.over t.history) same (live_is_serial came.session g H came.of legal)
