-- A quiet history of recorded events over a whole session has the serial machine's result on that session.
use Rattle.std.specs.Prelude.{◌≡◌, true, List, map, length, Some}
use Rattle.std.specs.List.{list_all}
use Rattle.def_machine.specs.Machine.{Machine}
use Rattle.def_machine.specs.Updates.{Session, Settings, below, committed}
use Rattle.def_machine.specs.Standings.{is_quiet}
use Rattle.def_machine.specs.Effects.{Event}
use Rattle.def_machine.specs.Histories.{Log, empty_log, after}
use Rattle.def_machine.specs.Serial.{Turn, serial, committed_finishes, first_stop, session_turns}
use Rattle.def_machine.specs.Recorded.{is_recorded, by_first_attempt}

-- The turns are those of the session, up to the numbers of their attempts, and their result is the one that the history left.
pub record IsWholeSession (M : Machine) (S : Session M) (l : Log M) (turns : List (Turn M)) : Type 0 where
  pub of_session : map by_first_attempt turns ≡ session_turns M 1 S.submissions
  pub result : serial M S.base turns
      ≡ record { finishes = committed_finishes M 1 l.updates; stop = first_stop M 1 l.updates; repository = below M S.base l.updates (committed M l.updates) }

-- This holds if the events are recorded ones, all updates handed in are admitted, and it is quiet.
abbrev pub QuietLaw : Machine → Type 0
QuietLaw M =
    (s : Settings) (S : Session M) (es : List (Event M)) (l : Log M) → M.Sound S.base
    → after M s S (empty_log M) es ≡ Some l
    → list_all is_recorded es ≡ true → length l.updates ≡ length S.submissions → is_quiet M s l.updates ≡ true
    → (turns : List (Turn M)) × IsWholeSession M S l turns
