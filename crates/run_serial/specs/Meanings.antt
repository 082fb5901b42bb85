-- What the types of the serial run mean.
use Rattle.std.specs.Prelude.{◌≡◌, ℕ, ◌+◌, ◌-◌, List, ◌∷◌, ◌++◌, map, Option, Some}
use Rattle.std.specs.Option.{option_map}
use Rattle.def_machine.specs.Updates.{shown}
use Rattle.def_chase.specs.Values.{Fact}
use Rattle.def_chase.specs.Mappings.{Rule}
use Rattle.def_chase.specs.Updates.{Choice}
use Rattle.def_chase.specs.Repository.{Change, apply}
use Rattle.base_types.specs.Contents.{changes_of}
use Rattle.base_types.specs.Listed.{Listed}
use Rattle.base_types.specs.declared.updates.Write.{Write}
use Rattle.def_steps.specs.Attempts.{Attempt, outcome_in}
use Rattle.def_steps.specs.Chase.{caused_chase}
use Rattle.def_steps.specs.Serial.{Request, serial_result}
use Rattle.def_language.specs.Checks.{rules_of}
use Rattle.def_language.specs.Sessions.{SessionData}
use Rattle.lang_session.specs.Meanings.{request_of, requests_in, update_of}
use Rattle.lang_session.specs.declared.sessions.SessionUpdate.{SessionUpdate}
use Rattle.chase_update.specs.PointMeanings.{end_of}
use Rattle.chase_update.specs.Results.{FinishTold, finish_of, lack_of, result_in, result_of, stop_of}
use Rattle.chase_update.specs.Wishes.{end_in}
use Rattle.chase_update.specs.declared.ends.Outcome.{Outcome}
use Rattle.chase_update.specs.declared.results.Finish.{Finish}
use Rattle.chase_update.specs.declared.results.Lack.{Lack}
use Rattle.chase_update.specs.declared.results.SessionResult.{SessionResult}
use Rattle.chase_update.specs.declared.results.Stop.{Stop}
use Rattle.run_serial.specs.Runs.{HasFinished, after, told_after, told_at, told_from}
use Rattle.run_serial.specs.Rests.{rest_from, turn_of, whole_rest}
use Rattle.run_serial.specs.declared.wholes.Rest.{Rest}

-- What the chase sees of the updates.
abbrev pub requests_of : List SessionUpdate → List Request
requests_of us = map request_of (map update_of us)

-- What the finishes of a list report.
abbrev pub finishes_of : Listed Finish → List FinishTold
finishes_of fs = map finish_of fs.items

-- From P on, the attempt comes to rest over D, as P', with this lack if it stops at a question.
abbrev pub RestsFrom : List Rule → ℕ → List Fact → List Choice → Attempt → Attempt → Option Lack → Type 0
RestsFrom ms B D answers P P' lack = rest_from ms B D answers (B - P.steps) P ≡ (P', option_map lack_of lack)

-- Taken whole over D, the update of this number comes to rest there.
abbrev pub RestsWhole : List Rule → ℕ → List Fact → ℕ → SessionUpdate → Rest → Type 0
RestsWhole ms B D n u rest =
    whole_rest ms B D (turn_of ms B n (request_of (update_of u))) ≡ (rest.program.attempt, option_map lack_of rest.lack)

-- Some of the changes, from the first on, have been made in D, and none of the others.
abbrev pub HasMadeSome : List Fact → List Change → List Fact → Type 0
HasMadeSome D changes D' = (some : List Change) × (others : List Change) × (changes ≡ some ++ others) × (D' ≡ apply D some)

-- The writes that the ended attempt shows have been made in D.
abbrev pub HasCommitted : List Fact → Attempt → List Fact → Type 0
HasCommitted D P D' = (ms : List Rule) (B : ℕ) → D' ≡ apply D (shown (caused_chase ms B) P)

-- For any attempt with these own writes that has ended so, the writes that it shows have been made in D.
abbrev pub HasKept : List Fact → Listed Write → Outcome → List Fact → Type 0
HasKept D writes outcome D' =
    (ms : List Rule) (B : ℕ) (P : Attempt) → changes_of writes ≡ P.own → option_map end_in (outcome_in P.phase) ≡ Some (end_of outcome)
    → D' ≡ apply D (shown (caused_chase ms B) P)

-- The finish of the attempt was added to the finishes, whatever its update's number.
abbrev pub HasEnded : Attempt → Listed Finish → Listed Finish → Type 0
HasEnded P fs fs' = (n : ℕ) → HasFinished n P (finishes_of fs) (finishes_of fs')

-- The turn of update n is over. The old finishes, and then the result of update n and the later ones over D, are the new
-- finishes, and then the result of the later ones over D'.
abbrev pub HasTaken : List Rule → ℕ → ℕ → SessionUpdate → Listed Finish → List Fact → Listed Finish → List Fact → Option Stop → Type 0
HasTaken ms B n u fs D fs' D' stop =
    (rs : List Request) → after (finishes_of fs) (told_from ms B D n (request_of (update_of u) ∷ rs))
    ≡ after (finishes_of fs') (told_after ms B D' (n + 1) rs (option_map stop_of stop))

-- The turns of these updates, the first of them number 1, are over: what was to be reported of them is reported.
abbrev pub HasTakenAll : List Rule → ℕ → List SessionUpdate → Listed Finish → List Fact → Listed Finish → List Fact → Option Stop → Type 0
HasTakenAll ms B us fs D fs' D' stop =
    after (finishes_of fs) (told_from ms B D 1 (requests_of us)) ≡ told_at (finishes_of fs') (option_map stop_of stop) D'

-- The result is the one of the serial machine on the session, with a budget of B steps for each update.
abbrev pub IsSerialRun : ℕ → SessionData → SessionResult → Type 0
IsSerialRun B s told = result_of told ≡ result_in (serial_result (rules_of s.mappings) B s.base (requests_in s))
