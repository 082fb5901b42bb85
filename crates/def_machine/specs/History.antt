-- The statement of the main theorem: the properties of every history.
use Rattle.std.specs.Prelude.{◌≡◌, ℕ, suc, ◌≤◌, ◌+◌, ◌*◌, true, false, List, Some, None, slice_get, length}
use Rattle.def_machine.specs.Machine.{Machine}
use Rattle.def_machine.specs.Updates.{Update, Session, Settings, below, committed}
use Rattle.def_machine.specs.Reads.{all_valid}
use Rattle.def_machine.specs.Standings.{is_quiet}
use Rattle.def_machine.specs.Effects.{Event}
use Rattle.def_machine.specs.Histories.{Log, empty_log, after, IsLegal}
use Rattle.def_machine.specs.Runs.{Reached}
use Rattle.def_machine.specs.Serial.{serial, committed_turns, committed_finishes, all_turns, first_stop}
use Rattle.def_machine.specs.Bounds.{steps_in, admissions_in}

-- The properties of the updates and the entries that events left.
pub record IsHistory (M : Machine) (s : Settings) (S : Session M) (l : Log M) : Type 0 where
  -- the entries are a legal history that leaves the updates
  pub legal : IsLegal M s S l.entries l.updates
  -- every logged read is valid
  pub valid : (k : ℕ) (u : Update M) → slice_get l.updates k ≡ Some u
      → all_valid M (below M S.base l.updates k) u ≡ true
  -- each update that is not withdrawn is its present attempt's run over the repository that is below it now
  pub runs : (k : ℕ) (u : Update M) → slice_get l.updates k ≡ Some u → u.withdrawn ≡ false
      → Reached M (below M S.base l.updates k) u.answers (suc k) u.attempt u.operation u.state u.log
  -- the committed updates ended as on the serial machine, and leave the same repository
  pub as_serial : serial M S.base (committed_turns M 1 l.updates)
      ≡ record { finishes = committed_finishes M 1 l.updates; stop = None; repository = below M S.base l.updates (committed M l.updates) }
  -- if it is quiet, this is the serial machine's whole result over all updates, up to the one that stops
  pub quiet : is_quiet M s l.updates ≡ true → serial M S.base (all_turns M 1 l.updates)
      ≡ record { finishes = committed_finishes M 1 l.updates; stop = first_stop M 1 l.updates; repository = below M S.base l.updates (committed M l.updates) }
  -- at most K + 2 attempts of each update
  pub attempts : (k : ℕ) (u : Update M) → slice_get l.updates k ≡ Some u → u.attempt ≤ suc s.retries
  -- as many admissions as updates, and at most (K + 2) B steps for each update
  pub admissions : admissions_in l.entries ≡ length l.updates
  pub steps : steps_in l.entries ≤ length l.updates * ((2 + s.retries) * M.budget)

-- This holds for any events that are allowed in turn.
abbrev pub HistoryLaw : Machine → Type 0
HistoryLaw M =
    (s : Settings) (S : Session M) (es : List (Event M)) (l : Log M) → M.Sound S.base
    → after M s S (empty_log M) es ≡ Some l → IsHistory M s S l
