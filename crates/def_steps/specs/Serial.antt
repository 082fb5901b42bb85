-- The serial machine of the chase: the updates of a session taken whole in turn, by attempt 0, looking at every violation; and
-- its result.
use Rattle.std.specs.Prelude.{ℕ, ◌==◌, not, List, [], ◌∷◌, map, filter, Option, Some, None}
use Rattle.std.specs.Option.{option_map, option_and_then}
use Rattle.std.specs.List.{flat_map}
use Rattle.def_machine.specs.Standings.{Lack}
use Rattle.def_machine.specs.Serial.{Rest, Ends, Stops, Turn, Finish, Stop, Result, serial, session_turns}
use Rattle.def_chase.specs.Values.{Fact}
use Rattle.def_chase.specs.Mappings.{Rule, force_relation}
use Rattle.def_chase.specs.Violations.{Scope}
use Rattle.def_chase.specs.Updates.{Operation, Choice}
use Rattle.def_steps.specs.Attempts.{Outcome, Question, Attempt, question_in, outcome_in}
use Rattle.def_steps.specs.Chase.{chase, every, whole_chase}

-- An update as a session has it: its operation, and the answers recorded for it in order. Its number is its place in the session,
-- from 1.
pub record Request : Type 0 where
  pub operation : Operation
  pub answers : List Choice

-- The finish of an update that ended: its number, its outcome, and the numbers of steps made and nulls drawn.
pub record Finished : Type 0 where
  pub number : ℕ
  pub outcome : Outcome
  pub steps : ℕ
  pub nulls : ℕ

-- The stop of an update that cannot go on: its number, its question, and whether the next answer is missing or does not fit.
pub record Stopped : Type 0 where
  pub number : ℕ
  pub question : Question
  pub lack : Lack

-- The result of the serial machine: the finishes up to the first stop, the stop if there is one, and the repository left, without
-- the writes of a stopped update.
pub record SerialResult : Type 0 where
  pub finishes : List Finished
  pub stop : Option Stopped
  pub repository : List Fact

-- The repository as it is printed: without the tuples that say which mappings were put in force.
abbrev pub answered : List Fact → List Fact
answered D = filter (λ t. not (t.relation == force_relation)) D

-- An attempt at rest: its last state, and the lack if it stopped at a question.
abbrev pub at_rest : (scope : Operation → Scope) (ms : List Rule) (B : ℕ) → Rest (chase scope ms B) → Attempt × Option Lack
at_rest scope ms B (Ends P) = (P, None)
at_rest scope ms B (Stops P l) = (P, Some l)

-- The finish of update n with this outcome in this state.
abbrev pub finished_so : ℕ → Attempt → Option Outcome → List Finished
finished_so n P None = []
finished_so n P (Some o) = record { number = n; outcome = o; steps = P.steps; nulls = P.nulls } ∷ []

-- The finish of update n in this state, if it has ended.
abbrev pub finished : ℕ → Attempt → List Finished
finished n P = finished_so n P (outcome_in P.phase)

-- The stop of update n in this state.
abbrev pub stopped : ℕ → Attempt → Lack → Option Stopped
stopped n P l = option_map (λ q. record { number = n; question = q; lack = l }) (question_in P.phase)

-- The result of a machine as a result of the chase.
abbrev pub told : (scope : Operation → Scope) (ms : List Rule) (B : ℕ) → Result (chase scope ms B) → SerialResult
told scope ms B r =
    record {
      finishes = flat_map (λ (f : Finish (chase scope ms B)). finished f.number f.state) r.finishes;
      stop = option_and_then (λ (s : Stop (chase scope ms B)). stopped s.number s.state s.lack) r.stop;
      repository = answered r.repository;
    }

-- The turns of a session's updates, each by attempt 0; the first is update n.
abbrev pub turns_in : (scope : Operation → Scope) (ms : List Rule) (B : ℕ) → ℕ → List Request → List (Turn (chase scope ms B))
turns_in scope ms B n rs = session_turns (chase scope ms B) n (map (λ (r : Request). record { operation = r.operation; answers = r.answers }) rs)

-- The turns of a whole session at the machine that looks at every violation.
abbrev pub turns_of : (ms : List Rule) (B : ℕ) → List Request → List (Turn (whole_chase ms B))
turns_of ms B rs = turns_in every ms B 1 rs

-- The serial machine on a session: its mappings, the budget of steps, its base and its updates.
abbrev pub serial_result : List Rule → ℕ → List Fact → List Request → SerialResult
serial_result ms B D rs = told every ms B (serial (whole_chase ms B) D (turns_of ms B rs))
