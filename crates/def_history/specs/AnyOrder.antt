-- The theorem of histories: attempts in any order leave the same repository as the serial machine, which takes the updates whole,
-- one after the other in number order.
use Rattle.std.specs.Prelude.{◌≡◌, ℕ, true, List, map, length, Option, None}
use Rattle.std.specs.List.{list_all}
use Rattle.def_machine.specs.Machine.{Machine}
use Rattle.def_machine.specs.Updates.{Update, Session, Settings}
use Rattle.def_machine.specs.Standings.{is_quiet}
use Rattle.def_machine.specs.Effects.{Entry}
use Rattle.def_machine.specs.Histories.{event_of}
use Rattle.def_machine.specs.Serial.{Turn, Stop, serial, committed_turns, committed_finishes, all_turns, first_stop}
use Rattle.def_machine.specs.Recorded.{is_recorded}
use Rattle.def_chase.specs.Values.{Fact}
use Rattle.def_chase.specs.Mappings.{Rule, AllHold}
use Rattle.def_steps.specs.Chase.{every, caused, whole_chase, caused_chase}
use Rattle.def_steps.specs.Serial.{SerialResult, told, serial_result}
use Rattle.def_steps.specs.Shifting.{outer_told}
use Rattle.def_history.specs.Histories.{IsLegalHistory, left}
use Rattle.def_history.specs.Admissible.{IsAdmissible, requests}

module _ (ms : List Rule) (B : ℕ) where
  -- The machine of the chase with these mappings and this budget, whose attempts look at the violations that they caused.
  abbrev M : Machine
  M = caused_chase ms B

  -- The turn at the serial machine: by attempt 0, and looking at every violation.
  abbrev pub first_turn : Turn M → Turn (whole_chase ms B)
  first_turn t = record { number = t.number; attempt = 0; operation = t.operation; answers = t.answers }

  -- The result of the serial machine on these turns.
  abbrev pub serially : List Fact → List (Turn M) → SerialResult
  serially D ts = told every ms B (serial (whole_chase ms B) D (map first_turn ts))

  -- The result of the updates as people see it, with nulls by their outer forms: the finishes of the committed ones that are not
  -- withdrawn, this stop, and the committed repository.
  abbrev pub tells : Session M → List (Update M) → Option (Stop M) → SerialResult
  tells S us stop = outer_told (told caused ms B (record { finishes = committed_finishes M 1 us; stop = stop; repository = left ms B S us }))

  -- The properties of a legal history that has these entries and leaves these updates.
  pub record IsSerial (s : Settings) (S : Session M) (H : List (Entry M)) (us : List (Update M)) : Type 0 where
    -- the committed updates that are not withdrawn, with the answers delivered to them, have the finishes of the serial machine,
    -- and leave its repository
    pub committed : serially S.base (committed_turns M 1 us) ≡ tells S us None
    -- every mapping in force holds in both
    pub hold : AllHold ms (left ms B S us)
    pub hold_serially : AllHold ms (serial (whole_chase ms B) S.base (map first_turn (committed_turns M 1 us))).repository
    -- if it is quiet, this is the serial machine's whole result over all updates that are not withdrawn, with the answers
    -- delivered and then those in the inbox
    pub quiet : is_quiet M s us ≡ true → serially S.base (all_turns M 1 us) ≡ tells S us (first_stop M 1 us)
    -- if, moreover, all updates handed in are admitted, none was withdrawn and none was answered live, it is the serial machine's
    -- result on the session
    pub session : list_all is_recorded (map event_of H) ≡ true → length us ≡ length S.submissions → is_quiet M s us ≡ true
        → serial_result ms B S.base (requests ms B S) ≡ tells S us (first_stop M 1 us)

  -- This holds for every legal history, whatever the order of admissions, steps, deliveries, answers and withdrawals, the number
  -- of retries and the kind of dependence.
  abbrev pub AreSerial : Type 0
  AreSerial =
      (s : Settings) (S : Session M) (H : List (Entry M)) (us : List (Update M)) → IsAdmissible ms B S → IsLegalHistory ms B s S H us
      → IsSerial s S H us

-- This holds for any mappings and any budget.
abbrev pub AnyOrder : Type 0
AnyOrder = (ms : List Rule) (B : ℕ) → AreSerial ms B
