-- What a verdict on a trace means.
use Rattle.std.specs.Prelude.{◌≡◌, ◌+◌, ◌<◌, ◌≤◌, ℕ, suc, Bool, true, false, List, [], ◌∷◌, ◌++◌, length, Some, None, slice_get, codes}
use Rattle.std.specs.Fmt.{decimal}
use Rattle.def_language.specs.Checks.{rules_of}
use Rattle.def_language.specs.Sessions.{RelationSchema, SessionData}
use Rattle.def_history.specs.Cores.{Ground, machine, updates_after, effect_after, grown, IsLegalOver}
use Rattle.def_history.specs.PlainEntries.{PlainEntry}
use Rattle.def_machine.specs.Effects.{Event, Admits, Steps, Delivers, Answers, Withdraws}
use Rattle.def_machine.specs.Standings.{is_quiet}
use Rattle.def_machine.specs.Updates.{Settings}
use Rattle.lang_session.specs.Meanings.{requests_in}
use Rattle.audit_trace.specs.Traces.{entry_line, trace_text}
use Rattle.audit_claims.specs.Claims.{Tells, TellsNothing}
use Rattle.audit_claims.specs.Forms.{HasLines, HasNoLines}
use Rattle.audit_claims.specs.Told.{Told, Admission, Step, Delivery, Answer, Withdrawal}
use Rattle.audit_claims.specs.Claimed.{told_by}

-- What is wrong with a line: it claims no event, or an event that is not allowed, or another effect than the event has.
pub data Why : Type 0 where
  Form : Why
  NotAllowed : Why
  Effect : Why

-- Yes, with the number of entries and whether nothing is left to do after them; or No, with the first line at fault, and why.
pub data Verdict : Type 0 where
  Yes : ℕ → Bool → Verdict
  No : ℕ → Why → Verdict

-- What a trace is judged by: the relations, and what its history is over.
pub record Trial : Type 0 where
  pub relations : List RelationSchema
  pub over : Ground

-- The session with all its updates, with `budget` steps for each attempt and these settings.
abbrev pub trial_of : SessionData → ℕ → Settings → Trial
trial_of s budget c =
    record {
      relations = s.relations;
      over = record { rules = rules_of s.mappings; budget = budget; settings = c; base = s.base; requests = requests_in s; later = [] };
    }

-- The claimed event as an event of a history.
abbrev pub event_told : (g : Ground) → Told → Event (machine g)
event_told g (Admission u) = Admits
event_told g (Step u) = Steps u
event_told g (Delivery u) = Delivers u
event_told g (Answer u c) = Answers u c
event_told g (Withdrawal u) = Withdraws u

-- ---- a history, and its lines

-- After n entries it is the turn of the event: it admits the next update of the session, or all of them are admitted.
abbrev pub IsTurn : Ground → ℕ → Told → Type 0
IsTurn g n (Admission u) = (n < length g.requests) × (u ≡ suc n)
IsTurn g n (Step u) = length g.requests ≤ n
IsTurn g n (Delivery u) = length g.requests ≤ n
IsTurn g n (Answer u c) = length g.requests ≤ n
IsTurn g n (Withdrawal u) = length g.requests ≤ n

-- The admissions of the session's updates come first, in order, and there are no other admissions.
abbrev pub AdmitsFirst : Ground → List PlainEntry → Type 0
AdmitsFirst g H = (k : ℕ) (e : PlainEntry) → slice_get H k ≡ Some e → IsTurn g k (told_by e)

-- A legal history whose admissions come first.
pub record IsHistory (g : Ground) (H : List PlainEntry) : Type 0 where
  pub legal : IsLegalOver g H
  pub first : AdmitsFirst g H

-- The line is the entry's, and claims its event.
pub record IsLineOf (relations : List RelationSchema) (line : List ℕ) (e : PlainEntry) : Type 0 where
  pub text : line ++ 10 ∷ [] ≡ entry_line relations e
  pub tells : Tells relations line (told_by e)

-- The lines are the entries', one for each.
abbrev pub AreLinesOf : List RelationSchema → List (List ℕ) → List PlainEntry → Type 0
AreLinesOf relations [] [] = Unit {0}
AreLinesOf relations [] (e ∷ H) = ⊥
AreLinesOf relations (line ∷ lines) [] = ⊥
AreLinesOf relations (line ∷ lines) (e ∷ H) = IsLineOf relations line e × AreLinesOf relations lines H

-- ---- what is wrong

-- After these entries it is the turn of the event.
abbrev pub IsDue : Ground → List PlainEntry → Told → Type 0
IsDue g H e = IsTurn g (length H) e

-- What is wrong with a line that follows the text of these entries.
abbrev pub IsWrong : Trial → List PlainEntry → List ℕ → Why → Type 0
IsWrong t H line Form = TellsNothing t.relations line
IsWrong t H line NotAllowed =
    (e : Told) × Tells t.relations line e × (IsDue t.over H e → effect_after t.over H (event_told t.over e) ≡ None)
IsWrong t H line Effect =
    (e : Told) × (x : PlainEntry) × Tells t.relations line e × IsDue t.over H e
    × (grown t.over H (event_told t.over e) ≡ Some (H ++ x ∷ [])) × (line ++ 10 ∷ [] ≡ entry_line t.relations x → ⊥)

-- The first line at fault among the lines after the head: its number in the text, from 1, and what is wrong with it.
pub data IsFaultIn (t : Trial) (lines : List (List ℕ)) : ℕ → Why → Type 0 where
  -- a line after lines that are the text of a history
  at : (H : List PlainEntry) (before after : List (List ℕ)) (line : List ℕ) (why : Why) → lines ≡ before ++ line ∷ after
      → IsHistory t.over H → AreLinesOf t.relations before H → IsWrong t H line why → IsFaultIn t lines (length before + 2) why
  -- the text ends before all updates of the session are admitted
  early : (H : List PlainEntry) → IsHistory t.over H → AreLinesOf t.relations lines H → length H < length t.over.requests
      → IsFaultIn t lines (length lines + 2) NotAllowed

-- The first line at fault in a text.
pub data IsFault (t : Trial) (text : List ℕ) : ℕ → Why → Type 0 where
  uncounted : HasNoLines text → IsFault t text 1 Form
  counted : (lines : List (List ℕ)) (line : ℕ) (why : Why) → HasLines text lines → IsFaultIn t lines line why → IsFault t text line why

-- ---- verdicts

-- The text is the trace of a history whose lines claim its events, and in which all updates of the session are admitted.
pub record IsTraceOf (t : Trial) (text : List ℕ) (H : List PlainEntry) : Type 0 where
  pub same : text ≡ trace_text t.relations H
  pub history : IsHistory t.over H
  pub lines : List (List ℕ)
  pub form : HasLines text lines
  pub told : AreLinesOf t.relations lines H
  pub all_admitted : length t.over.requests ≤ length H

-- Nothing is left to do after these entries.
abbrev pub is_quiet_after : Ground → List PlainEntry → Bool
is_quiet_after g H = is_quiet (machine g) g.settings (updates_after g H)

-- The verdict on a text: it is the trace of a history with n entries, or it has this first fault.
abbrev pub IsVerdict : Trial → List ℕ → Verdict → Type 0
IsVerdict t text (Yes n quiet) = (H : List PlainEntry) × IsTraceOf t text H × (n ≡ length H) × (quiet ≡ is_quiet_after t.over H)
IsVerdict t text (No line why) = IsFault t text line why

-- ---- the words of a verdict

abbrev pub why_word : Why → List ℕ
why_word Form = codes " form"
why_word NotAllowed = codes " event"
why_word Effect = codes " effect"

abbrev pub verdict_text : Verdict → List ℕ
verdict_text (Yes n true) = codes "yes entries " ++ (decimal n ++ codes " quiet")
verdict_text (Yes n false) = codes "yes entries " ++ (decimal n ++ codes " open")
verdict_text (No line why) = codes "no line " ++ (decimal line ++ why_word why)
