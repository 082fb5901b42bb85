-- The state of judging a trace, and the judgement on its next line.
use Rattle.std.specs.Prelude.{◌≡◌, ◌≤◌, ℕ, min, List, [], ◌∷◌, ◌++◌, length, Option, Some, None}
use Rattle.def_language.specs.Sessions.{RelationSchema}
use Rattle.def_history.specs.Cores.{Ground, updates_after}
use Rattle.def_history.specs.PlainEntries.{PlainEntry}
use Rattle.audit_replay.specs.Replays.{IsReplayOf, event_in}
use Rattle.audit_replay.specs.declared.events.Event.{Event}
use Rattle.audit_replay.specs.declared.replays.Replay.{Replay}
use Rattle.audit_claims.specs.Forms.{IsOf}
use Rattle.audit_claims.specs.Told.{Told}
use Rattle.audit_claims.specs.Verdicts.{AreLinesOf, IsDue, IsFaultIn, IsHistory, IsWrong, Trial, Verdict, Yes, No, event_told, is_quiet_after}
use Rattle.audit_verdict.specs.Verdicts.{why_of}
use Rattle.audit_verdict.specs.declared.verdicts.Why.{Why}

-- As many updates are admitted as there are entries, up to all updates of the session.
abbrev pub AreAdmitted : Ground → List PlainEntry → Type 0
AreAdmitted g H = length (updates_after g H) ≡ min (length H) (length g.requests)

-- The entries are a history whose admissions come first, and the replay has replayed them.
pub record Replays (g : Ground) (H : List PlainEntry) (r : Replay) : Type 0 where
  pub history : IsHistory g H
  pub admitted : AreAdmitted g H
  pub replay : IsReplayOf g H r

-- The lines are the text of a history, which the replay has replayed.
pub record Stands (t : Trial) (lines : List (List ℕ)) (r : Replay) : Type 0 where
  pub H : List PlainEntry
  pub replays : Replays t.over H r
  pub told : AreLinesOf t.relations lines H

-- The claimed event, if it is its turn.
abbrev pub IsEventFor : Ground → List PlainEntry → Told → Option Event → Type 0
IsEventFor g H e None = IsDue g H e → ⊥
IsEventFor g H e (Some event) = IsDue g H e × (event_in g event ≡ event_told g e)

abbrev pub HasEvent : Replay → Told → Option Event → Type 0
HasEvent r e event = (g : Ground) (H : List PlainEntry) → Replays g H r → IsEventFor g H e event

-- The event, if all updates of the session are admitted.
abbrev pub IsEventWhole : Ground → List PlainEntry → Event → Option Event → Type 0
IsEventWhole g H event None = length g.requests ≤ length H → ⊥
IsEventWhole g H event (Some found) = (length g.requests ≤ length H) × (found ≡ event)

abbrev pub HasEventWhole : Replay → Event → Option Event → Type 0
HasEventWhole r event found = (g : Ground) (H : List PlainEntry) → Replays g H r → IsEventWhole g H event found

-- The line that follows the lines of the replay: the replay has made its event, or this is wrong with it.
abbrev pub AfterLine : Trial → List (List ℕ) → List ℕ → Replay → Option Why → Type 0
AfterLine t lines line new None = Stands t (lines ++ line ∷ []) new
AfterLine t lines line new (Some why) = (H : List PlainEntry) × IsHistory t.over H × AreLinesOf t.relations lines H × IsWrong t H line (why_of why)

abbrev pub HasJudged : List RelationSchema → List ℕ → Replay → Replay → Option Why → Type 0
HasJudged relations line old new found =
    (t : Trial) (lines : List (List ℕ)) → t.relations ≡ relations → Stands t lines old → AfterLine t lines line new found

-- The verdict on the lines after the first.
abbrev pub IsVerdictIn : Trial → List (List ℕ) → Verdict → Type 0
IsVerdictIn t lines (Yes n quiet) =
    (H : List PlainEntry) × IsHistory t.over H × AreLinesOf t.relations lines H × (length t.over.requests ≤ length H) × (n ≡ length H) × (quiet ≡ is_quiet_after t.over H)
IsVerdictIn t lines (No line why) = IsFaultIn t lines line why

-- The verdict on lines, by a replay in which nothing has happened.
abbrev pub HasVerdict : List RelationSchema → List ℕ → Replay → Verdict → Type 0
HasVerdict relations text r verdict =
    (t : Trial) (lines : List (List ℕ)) → t.relations ≡ relations → Stands t [] r → IsOf text lines → IsVerdictIn t lines verdict

-- The verdict on n lines, by a replay of all of them.
abbrev pub HasEnded : ℕ → Replay → Verdict → Type 0
HasEnded n r verdict = (t : Trial) (lines : List (List ℕ)) → Stands t lines r → n ≡ length lines → IsVerdictIn t lines verdict
