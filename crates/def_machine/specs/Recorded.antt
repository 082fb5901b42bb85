-- How the updates of a history agree with those that were handed in.
use Rattle.std.specs.Prelude.{◌≡◌, ℕ, Bool, true, false, List, ◌++◌, map, take, length, Some, slice_get}
use Rattle.std.specs.List.{list_all}
use Rattle.def_machine.specs.Machine.{Machine}
use Rattle.def_machine.specs.Updates.{Update, Submission, Session, Settings}
use Rattle.def_machine.specs.Effects.{Event, Admits, Steps, Delivers, Answers, Withdraws}
use Rattle.def_machine.specs.Histories.{Log, empty_log, after}
use Rattle.def_machine.specs.Serial.{Turn, all_turns, session_turns}

-- The event is recorded: neither a live answer nor a withdrawal.
abbrev pub is_recorded : {M : Machine} → Event M → Bool
is_recorded Admits = true
is_recorded (Steps i) = true
is_recorded (Delivers i) = true
is_recorded (Answers i c) = false
is_recorded (Withdraws i) = false

-- The turn, by attempt 0.
abbrev pub by_first_attempt : {M : Machine} → Turn M → Turn M
by_first_attempt t = record { number = t.number; attempt = 0; operation = t.operation; answers = t.answers }

-- The updates after the events agree with those that were handed in.
pub record IsRecorded (M : Machine) (S : Session M) (es : List (Event M)) (us : List (Update M)) : Type 0 where
  -- each update does the operation with which it was handed in
  pub operations : (k : ℕ) (u : Update M) → slice_get us k ≡ Some u
      → (x : Submission M) × (slice_get S.submissions k ≡ Some x) × (u.operation ≡ x.operation)
  -- without live answers and withdrawals, the turns are those of the session, up to their attempts
  pub turns : list_all is_recorded es ≡ true
      → map by_first_attempt (all_turns M 1 us) ≡ session_turns M 1 (take (length us) S.submissions)
  pub present : list_all is_recorded es ≡ true → (k : ℕ) (u : Update M) → slice_get us k ≡ Some u → u.withdrawn ≡ false

-- This holds after every history.
abbrev pub RecordedLaw : Machine → Type 0
RecordedLaw M =
    (s : Settings) (S : Session M) (es : List (Event M)) (l : Log M) → after M s S (empty_log M) es ≡ Some l
    → IsRecorded M S es l.updates

-- The session with further updates handed in.
abbrev pub with_more : {M : Machine} → Session M → List (Submission M) → Session M
with_more S xs = record { base = S.base; submissions = S.submissions ++ xs }

-- A history stays a history if further updates are handed in.
abbrev pub LongerLaw : Machine → Type 0
LongerLaw M =
    (s : Settings) (S : Session M) (xs : List (Submission M)) (l m : Log M) (es : List (Event M))
    → after M s S l es ≡ Some m → after M s (with_more S xs) l es ≡ Some m
