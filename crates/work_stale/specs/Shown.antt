-- The writes that updates show, computed from the entries of a history.
use Rattle.std.specs.Prelude.{ℕ, ◌==◌, Bool, false, if◌then◌else◌, List, [], ◌∷◌, ◌++◌, map, Some}
use Rattle.def_machine.specs.Updates.{hides}
use Rattle.def_machine.specs.Standings.{Standing, Ready, Held, Paused, Ended, Withdrawn}
use Rattle.def_machine.specs.Cascade.{has_number}
use Rattle.def_chase.specs.Repository.{Change}
use Rattle.def_history.specs.PlainEntries.{PlainCause, InConflict, Dependent, PlainEntry, WasAdmitted, WasStepped, WasDelivered, WasAnswered, WasWithdrawn}

-- The update that is restarted for the cause.
abbrev pub reader_in : PlainCause → ℕ
reader_in (InConflict c) = c.reader
reader_in (Dependent c) = c.reader

-- The updates that the entry restarts.
abbrev pub restarted_in : PlainEntry → List ℕ
restarted_in (WasAdmitted i) = []
restarted_in (WasStepped e) = map reader_in e.causes
restarted_in (WasDelivered e) = []
restarted_in (WasAnswered e) = []
restarted_in (WasWithdrawn e) = map reader_in e.causes

-- The attempt ended spent or refused, so that it shows no write.
abbrev pub ends_hidden : Standing → Bool
ends_hidden Ready = false
ends_hidden (Held c) = false
ends_hidden (Paused l) = false
ends_hidden (Ended o) = hides (Some o)
ends_hidden Withdrawn = false

-- The update whose own event takes its writes away: its step ends spent or refused, or it is withdrawn.
abbrev pub lost_in : PlainEntry → List ℕ
lost_in (WasAdmitted i) = []
lost_in (WasStepped e) = if ends_hidden e.standing then e.update ∷ [] else []
lost_in (WasDelivered e) = []
lost_in (WasAnswered e) = []
lost_in (WasWithdrawn e) = e.update ∷ []

-- The updates whose writes the entry takes away.
abbrev pub taken_in : PlainEntry → List ℕ
taken_in e = lost_in e ++ restarted_in e

-- The writes of update i that the entry shows.
abbrev pub shown_by : ℕ → PlainEntry → List Change
shown_by i (WasAdmitted j) = []
shown_by i (WasStepped e) = if e.update == i then e.writes else []
shown_by i (WasDelivered e) = []
shown_by i (WasAnswered e) = []
shown_by i (WasWithdrawn e) = []

-- What update i shows after the entry, if it showed ws before.
abbrev pub shown_after : ℕ → List Change → PlainEntry → List Change
shown_after i ws e = if has_number (taken_in e) i then [] else ws ++ shown_by i e

-- What update i shows after these entries, if it showed ws before.
abbrev pub shown_from : ℕ → List Change → List PlainEntry → List Change
shown_from i ws [] = ws
shown_from i ws (e ∷ es) = shown_from i (shown_after i ws e) es

-- The writes that update i shows after the entries of a history.
abbrev pub trail_by : ℕ → List PlainEntry → List Change
trail_by i H = shown_from i [] H
