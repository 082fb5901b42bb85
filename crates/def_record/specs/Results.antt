-- The end of a desk over the chase whose seats are all at rest: the serial machine's result on the session.
use Rattle.std.specs.Prelude.{◌≡◌, ℕ, ◌<◌, true, List, ◌++◌, map, length}
use Rattle.std.specs.List.{list_all}
use Rattle.def_machine.specs.Updates.{Update, Session, Settings}
use Rattle.def_machine.specs.Effects.{Entry}
use Rattle.def_machine.specs.Histories.{event_of}
use Rattle.def_machine.specs.Serial.{first_stop}
use Rattle.def_machine.specs.Recorded.{is_recorded}
use Rattle.def_chase.specs.Values.{Fact, outer}
use Rattle.def_chase.specs.Repository.{has}
use Rattle.def_chase.specs.Mappings.{Rule, AllHold}
use Rattle.def_steps.specs.Chase.{caused_chase}
use Rattle.def_steps.specs.Serial.{serial_result}
use Rattle.def_history.specs.Histories.{IsLegalHistory, left}
use Rattle.def_history.specs.Admissible.{IsAdmissible, requests}
use Rattle.def_history.specs.AnyOrder.{tells}
use Rattle.def_record.specs.Items.{Record, entries_in}
use Rattle.def_record.specs.Records.{IsRecord}
use Rattle.def_record.specs.Openings.{opening}
use Rattle.def_record.specs.Rests.{AreSeen, AllRest}
use Rattle.def_record.specs.Headline.{EndsSerial}

-- The history is legal, begins with H, goes on with steps and deliveries only, and ends quiet. Its result, with nulls by their
-- outer forms, is the serial machine's result on the session. Every mapping in force holds in the repository that it leaves, and
-- different tuples there have different outer forms.
pub record EndsWithResult (ms : List Rule) (B : ℕ) (s : Settings) (S : Session (caused_chase ms B)) (H history : List (Entry (caused_chase ms B))) : Type 0 where
  pub ends : EndsSerial (caused_chase ms B) s S H history
  pub result : serial_result ms B S.base (requests ms B S) ≡ tells ms B S ends.updates (first_stop (caused_chase ms B) 1 ends.updates)
  pub hold : AllHold ms (left ms B S ends.updates)
  pub apart : (x y : Fact) → has (left ms B S ends.updates) x ≡ true → has (left ms B S ends.updates) y ≡ true → outer x ≡ outer y → x ≡ y

-- This holds if the whole session was admitted to the core, the record is of a desk over it, and the seats are at rest and have
-- seen all items that they made.
abbrev pub ResultLaw : Type 0
ResultLaw =
    (ms : List Rule) (B : ℕ) (s : Settings) (S : Session (caused_chase ms B)) (H : List (Entry (caused_chase ms B))) (us : List (Update (caused_chase ms B)))
    (later : Record (caused_chase ms B)) (seen : List (Record (caused_chase ms B))) → IsAdmissible ms B S
    → IsLegalHistory ms B s S H us → list_all is_recorded (map event_of H) ≡ true → length us ≡ length S.submissions
    → IsRecord (opening s S H ++ later) → 0 < length seen → AreSeen seen (opening s S H ++ later) → AllRest seen
    → EndsWithResult ms B s S H (entries_in (opening s S H ++ later))
