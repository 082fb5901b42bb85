-- What a run leaves: the trail of each update that came to its end, and the stop if there is one.
use Rattle.std.specs.Prelude.{◌≡◌, ℕ, ◌+◌, List, [], ◌∷◌, ◌++◌, map, Option, Some, None}
use Rattle.std.specs.Option.{option_map}
use Rattle.def_machine.specs.Updates.{shown}
use Rattle.def_machine.specs.Serial.{Finish, Result, serial}
use Rattle.def_chase.specs.Values.{Fact}
use Rattle.def_chase.specs.Mappings.{Rule}
use Rattle.def_chase.specs.Repository.{Change}
use Rattle.def_chase.specs.Violations.{Scope}
use Rattle.def_chase.specs.Updates.{Operation}
use Rattle.base_types.specs.Contents.{changes_of}
use Rattle.base_types.specs.Listed.{Listed}
use Rattle.base_types.specs.declared.updates.Write.{Write}
use Rattle.def_steps.specs.Attempts.{Attempt, outcome_in}
use Rattle.def_steps.specs.Chase.{chase, every, caused, whole_chase, caused_chase}
use Rattle.def_steps.specs.Serial.{Request, told, turns_in, turns_of}
use Rattle.def_language.specs.Checks.{rules_of}
use Rattle.def_language.specs.Sessions.{SessionData}
use Rattle.lang_session.specs.Meanings.{request_of, requests_in, update_of}
use Rattle.lang_session.specs.declared.sessions.SessionUpdate.{SessionUpdate}
use Rattle.chase_update.specs.PointMeanings.{end_of}
use Rattle.chase_update.specs.Results.{StopTold, stop_in, stop_of}
use Rattle.chase_update.specs.Wishes.{end_in}
use Rattle.chase_update.specs.declared.ends.Outcome.{Outcome}
use Rattle.chase_update.specs.declared.results.Stop.{Stop}
use Rattle.run_serial.specs.declared.trailing.Trailed.{Trailed}

-- The trails in the order of the updates, and the stop if there is one.
pub record TrailsTold : Type 0 where
  pub trails : List (List Change)
  pub stop : Option StopTold

-- The trails of a result: of each finish the writes that it shows, its own writes after Done and none after Spent or Refused.
abbrev pub trailed : (scope : Operation → Scope) (ms : List Rule) (B : ℕ) → Result (chase scope ms B) → TrailsTold
trailed scope ms B r =
    record {
      trails = map (λ (f : Finish (chase scope ms B)). shown (chase scope ms B) f.state) r.finishes;
      stop = option_map stop_in (told scope ms B r).stop;
    }

-- The trails and the stop of the serial machine.
abbrev pub serial_trailed : List Rule → ℕ → List Fact → List Request → TrailsTold
serial_trailed ms B D rs = trailed every ms B (serial (whole_chase ms B) D (turns_of ms B rs))

-- The trails of the serial machine's run of a session, with a budget of B steps for each update.
abbrev pub trails_by : ℕ → SessionData → List (List Change)
trails_by B s = (serial_trailed (rules_of s.mappings) B s.base (requests_in s)).trails

-- ---- what the program's types mean

abbrev pub trails_of : Listed (Listed Write) → List (List Change)
trails_of ts = map changes_of ts.items

abbrev pub trailed_of : Trailed → TrailsTold
trailed_of t = record { trails = trails_of t.trails; stop = option_map stop_of t.stop }

-- The run leaves what the serial machine leaves of the session.
abbrev pub IsTrailed : ℕ → SessionData → Trailed → Type 0
IsTrailed B s t = trailed_of t ≡ serial_trailed (rules_of s.mappings) B s.base (requests_in s)

-- ---- turn by turn

-- What these updates leave, taken whole in turn over D. The first of them has the number n.
unfoldable pub trailed_from : List Rule → ℕ → List Fact → ℕ → List Request → TrailsTold
trailed_from ms B D n rs = trailed caused ms B (serial (caused_chase ms B) D (turns_in caused ms B n rs))

-- What is left with these trails before its own.
abbrev pub after : List (List Change) → TrailsTold → TrailsTold
after ts r = record { trails = ts ++ r.trails; stop = r.stop }

-- What is left after a turn: the stop there, if there is one, or what the next updates leave.
abbrev pub trailed_after : List Rule → ℕ → List Fact → ℕ → List Request → Option StopTold → TrailsTold
trailed_after ms B D n rs None = trailed_from ms B D n rs
trailed_after ms B D n rs (Some s) = record { trails = []; stop = Some s }

-- The trail of an attempt with these own writes that has ended so.
abbrev pub IsTrail : Listed Write → Outcome → Listed Write → Type 0
IsTrail writes outcome trail =
    (ms : List Rule) (B : ℕ) (P : Attempt) → changes_of writes ≡ P.own → option_map end_in (outcome_in P.phase) ≡ Some (end_of outcome)
    → changes_of trail ≡ shown (caused_chase ms B) P

-- The trail of the attempt was added to the trails.
abbrev pub HasLeft : Attempt → Listed (Listed Write) → Listed (Listed Write) → Type 0
HasLeft P ts ts' = (ms : List Rule) (B : ℕ) → trails_of ts' ≡ trails_of ts ++ shown (caused_chase ms B) P ∷ []

-- The turn of update n is over. The old trails, and then what update n and the later ones leave over D, are the new trails, and
-- then what the later ones leave over D'.
abbrev pub HasTrailed : List Rule → ℕ → ℕ → SessionUpdate → Listed (Listed Write) → List Fact → Listed (Listed Write) → List Fact → Option Stop → Type 0
HasTrailed ms B n u ts D ts' D' stop =
    (rs : List Request) → after (trails_of ts) (trailed_from ms B D n (request_of (update_of u) ∷ rs))
    ≡ after (trails_of ts') (trailed_after ms B D' (n + 1) rs (option_map stop_of stop))

-- The turns of these updates, the first of them number 1, are over: what they were to leave is left.
abbrev pub HasTrailedAll : List Rule → ℕ → List SessionUpdate → Listed (Listed Write) → List Fact → Listed (Listed Write) → Option Stop → Type 0
HasTrailedAll ms B us ts D ts' stop =
    after (trails_of ts) (trailed_from ms B D 1 (map request_of (map update_of us))) ≡ record { trails = trails_of ts'; stop = option_map stop_of stop }
