-- The small machine on a session: a quiet history of recorded events has its serial result, by first attempts.
use Rattle.std.specs.Prelude.{◌≡◌, ℕ, ◌≤◌, true, List, length, Some}
use Rattle.std.specs.List.{list_all}
use Rattle.def_machine.specs.Updates.{Session, Settings, below, committed}
use Rattle.def_machine.specs.Standings.{is_quiet}
use Rattle.def_machine.specs.Effects.{Event}
use Rattle.def_machine.specs.Histories.{Log, empty_log, after}
use Rattle.def_machine.specs.Serial.{Result, serial, committed_finishes, first_stop, session_turns}
use Rattle.def_machine.specs.Recorded.{is_recorded}
use Rattle.def_machine.specs.Small.{small}

-- The result of the updates of a history.
abbrev pub small_result : (B : ℕ) → Session (small B) → Log (small B) → Result (small B)
small_result B S l =
    record {
      finishes = committed_finishes (small B) 1 l.updates;
      stop = first_stop (small B) 1 l.updates;
      repository = below (small B) S.base l.updates (committed (small B) l.updates);
    }

-- This holds whatever the order of the events.
abbrev pub SmallSessions : Type 0
SmallSessions =
    (B : ℕ) (s : Settings) (S : Session (small B)) (es : List (Event (small B))) (l : Log (small B)) → 1 ≤ B
    → after (small B) s S (empty_log (small B)) es ≡ Some l → list_all is_recorded es ≡ true → length l.updates ≡ length S.submissions
    → is_quiet (small B) s l.updates ≡ true → serial (small B) S.base (session_turns (small B) 1 S.submissions) ≡ small_result B S l
