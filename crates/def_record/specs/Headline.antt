-- The end of a desk whose seats are all at rest.
use Rattle.std.specs.Prelude.{◌≡◌, ◌<◌, Bool, true, false, List, ◌++◌, map, length}
use Rattle.std.specs.List.{list_all}
use Rattle.def_machine.specs.Machine.{Machine}
use Rattle.def_machine.specs.Updates.{Update, Session, Settings}
use Rattle.def_machine.specs.Standings.{is_quiet}
use Rattle.def_machine.specs.Effects.{Entry, Admitted, Stepped, Delivered, Answered, Withdrew}
use Rattle.def_machine.specs.Histories.{event_of, IsLegal}
use Rattle.def_machine.specs.Serial.{Turn}
use Rattle.def_machine.specs.Recorded.{is_recorded}
use Rattle.def_machine.specs.Quiet.{IsWholeSession}
use Rattle.def_record.specs.Items.{Record, entries_in}
use Rattle.def_record.specs.Records.{IsRecord}
use Rattle.def_record.specs.Openings.{opening}
use Rattle.def_record.specs.Rests.{AreSeen, AllRest}

-- The entry is a step or a delivery.
abbrev pub is_move : {M : Machine} → Entry M → Bool
is_move (Admitted i) = false
is_move (Stepped d) = true
is_move (Delivered i s) = true
is_move (Answered i c s) = false
is_move (Withdrew i cs n) = false

-- The history is legal, begins with H, goes on with steps and deliveries only, ends quiet, and has the serial machine's result on
-- the session.
pub record EndsSerial (M : Machine) (s : Settings) (S : Session M) (H : List (Entry M)) (history : List (Entry M)) : Type 0 where
  pub updates : List (Update M)
  pub legal : IsLegal M s S history updates
  pub quiet : is_quiet M s updates ≡ true
  -- all updates of the session are admitted, and no event is a live answer or a withdrawal
  pub admitted : length updates ≡ length S.submissions
  pub recorded : list_all is_recorded (map event_of history) ≡ true
  pub later : List (Entry M)
  pub begins : history ≡ H ++ later
  pub moves : list_all is_move later ≡ true
  pub turns : List (Turn M)
  pub whole : IsWholeSession M S (record { updates = updates; entries = history }) turns

-- This holds if the whole session was admitted to the core, the record is of a desk over it, and the seats are at rest and have
-- seen all items that they made.
abbrev pub HeadlineLaw : Machine → Type 0
HeadlineLaw M =
    (s : Settings) (S : Session M) (H : List (Entry M)) (us : List (Update M)) (later : Record M) (seen : List (Record M)) → M.Sound S.base
    → IsLegal M s S H us → list_all is_recorded (map event_of H) ≡ true → length us ≡ length S.submissions
    → IsRecord (opening s S H ++ later) → 0 < length seen → AreSeen seen (opening s S H ++ later) → AllRest seen
    → EndsSerial M s S H (entries_in (opening s S H ++ later))
