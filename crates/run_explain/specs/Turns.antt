-- What is noted of updates that are taken whole in turn.
use Rattle.std.specs.Prelude.{◌≡◌, ℕ, ◌+◌, ◌-◌, Bool, true, false, List, [], ◌∷◌, ◌++◌, Option, Some, None}
use Rattle.std.specs.Option.{option_map}
use Rattle.def_chase.specs.Values.{Fact}
use Rattle.def_chase.specs.Mappings.{Rule}
use Rattle.def_chase.specs.Updates.{Choice}
use Rattle.base_types.specs.Listed.{Listed}
use Rattle.def_language.specs.Checks.{rules_of}
use Rattle.def_language.specs.Sessions.{SessionData}
use Rattle.chase_update.specs.Results.{StopTold, lack_of, stop_of}
use Rattle.chase_update.specs.Wishes.{Wish, WishesReply, WishesChoice, WishesNothing, WishesStep, IsDone, IsSpent, IsRefused}
use Rattle.chase_update.specs.declared.results.Stop.{Stop}
use Rattle.lang_session.specs.Meanings.{request_of, requests_in, update_of}
use Rattle.lang_session.specs.declared.sessions.SessionUpdate.{SessionUpdate}
use Rattle.def_steps.specs.Attempts.{Attempt}
use Rattle.def_steps.specs.Chase.{every, caused}
use Rattle.def_steps.specs.Serial.{Request, turns_in, turns_of}
use Rattle.def_provenance.specs.Courses.{steps_from, whole_steps, serial_steps}
use Rattle.def_provenance.specs.Notes.{Noted, notes_of}
use Rattle.run_serial.specs.Meanings.{requests_of}
use Rattle.run_serial.specs.Rests.{turn_of, whole_rest}
use Rattle.run_explain.specs.NoteMeanings.{notes_in}
use Rattle.run_note.specs.declared.notes.Note.{Note}
use Rattle.run_explain.specs.declared.runs.NotedRun.{NotedRun}
use Rattle.run_explain.specs.declared.wholes.Taken.{Taken}

-- A program that wants this has ended with its work done.
abbrev pub wants_none_done : Wish → Bool
wants_none_done (WishesReply q) = false
wants_none_done (WishesChoice i) = false
wants_none_done (WishesNothing IsDone) = true
wants_none_done (WishesNothing IsSpent) = false
wants_none_done (WishesNothing (IsRefused u k)) = false
wants_none_done WishesStep = false

-- What is noted of the steps that an attempt has left over D.
abbrev pub left_from : List Rule → ℕ → List Fact → List Choice → ℕ → Attempt → List Noted
left_from ms B D answers k P = notes_of (steps_from caused ms B P.operation D answers k P)

-- The notes of the steps from P on were added after the notes.
abbrev pub HasNotedFrom : List Rule → ℕ → List Fact → List Choice → Attempt → Listed Note → Listed Note → Type 0
HasNotedFrom ms B D answers P ns ns' = notes_in ns' ≡ notes_in ns ++ left_from ms B D answers (B - P.steps) P

-- What is noted of an update that is taken whole over D.
abbrev pub whole_notes : List Rule → ℕ → List Fact → ℕ → Request → List Noted
whole_notes ms B D n r = notes_of (whole_steps caused ms B D (turn_of ms B n r))

-- Taken whole over D, the update of this number came to rest there, and its steps were noted.
abbrev pub HasTaken : List Rule → ℕ → List Fact → ℕ → SessionUpdate → Taken → Type 0
HasTaken ms B D n u t =
    (whole_rest ms B D (turn_of ms B n (request_of (update_of u))) ≡ (t.program.attempt, option_map lack_of t.lack))
    × (notes_in t.notes ≡ whole_notes ms B D n (request_of (update_of u)))

-- The property holds of the mappings, the steps and the update n, whenever the update was taken whole over D to this rest.
abbrev pub OnceTaken : List Fact → ℕ → Taken → (List Rule → ℕ → SessionUpdate → Type 0) → Type 0
OnceTaken D n t p = (ms : List Rule) (B : ℕ) (u : SessionUpdate) → HasTaken ms B D n u t → p ms B u

-- What is noted of these updates, taken whole in turn over D. The first of them has the number n.
unfoldable pub noted_from : List Rule → ℕ → List Fact → ℕ → List Request → List Noted
noted_from ms B D n rs = notes_of (serial_steps caused ms B D (turns_in caused ms B n rs))

-- What is noted after a turn: nothing if the run stopped there.
abbrev pub noted_after : List Rule → ℕ → List Fact → ℕ → List Request → Option StopTold → List Noted
noted_after ms B D n rs None = noted_from ms B D n rs
noted_after ms B D n rs (Some s) = []

-- The turn of update n is over. The old notes, and then those of update n and the later ones over D, are the new notes, and then
-- those of the later ones over D'.
abbrev pub HasNotedTurn : List Rule → ℕ → ℕ → SessionUpdate → Listed Note → List Fact → Listed Note → List Fact → Option Stop → Type 0
HasNotedTurn ms B n u ns D ns' D' stop =
    (rs : List Request) → notes_in ns ++ noted_from ms B D n (request_of (update_of u) ∷ rs)
    ≡ notes_in ns' ++ noted_after ms B D' (n + 1) rs (option_map stop_of stop)

-- The turns of these updates, the first of them number 1, are over: what was to be noted of them is noted.
abbrev pub HasNotedAll : List Rule → ℕ → List SessionUpdate → Listed Note → List Fact → Listed Note → Type 0
HasNotedAll ms B us ns D ns' = notes_in ns ++ noted_from ms B D 1 (requests_of us) ≡ notes_in ns'

-- The notes are of the steps of the serial machine on the session that put a tuple, with a budget of B steps for each update.
abbrev pub IsNotedRun : ℕ → SessionData → NotedRun → Type 0
IsNotedRun B s run = notes_in run.notes ≡ notes_of (serial_steps every (rules_of s.mappings) B s.base (turns_of (rules_of s.mappings) B (requests_in s)))
