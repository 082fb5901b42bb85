-- How the output of `run` names the nulls that its history left.
use Rattle.std.specs.Prelude.{◌≡◌, ◌≤◌, ◌⊎◌, ℕ, true, false, List, map, length, Some}
use Rattle.def_machine.specs.Updates.{Update, Settings, below, committed}
use Rattle.def_chase.specs.Values.{NullName, Unknown, Fact, outer}
use Rattle.def_steps.specs.Origins.{stands_in}
use Rattle.def_steps.specs.Serial.{answered}
use Rattle.def_history.specs.Cores.{machine, updates_after}
use Rattle.def_history.specs.Nulls.{numbered}
use Rattle.def_history.specs.PlainEntries.{PlainEntry}
use Rattle.def_language.specs.Grammar.{null_word}
use Rattle.def_language.specs.Sessions.{SessionData}
use Rattle.lang_report.specs.Results.{serial_told}
use Rattle.core_engine.specs.States.{ground_of}

-- the updates that the history left
abbrev pub updates_left : (s : SessionData) (steps : ℕ) (c : Settings) → List PlainEntry → List (Update (machine (ground_of s steps c)))
updates_left s steps c H = updates_after (ground_of s steps c) H

-- the base after the writes of the first k updates; each null has its attempt there
abbrev pub left_after : ℕ → SessionData → ℕ → Settings → List PlainEntry → List Fact
left_after k s steps c H = below (machine (ground_of s steps c)) s.base (updates_left s steps c H) k

-- the number of committed updates
abbrev pub committed_of : SessionData → ℕ → Settings → List PlainEntry → ℕ
committed_of s steps c H = committed (machine (ground_of s steps c)) (updates_left s steps c H)

-- The null was drawn by the present attempt of the update that its name has, and its place is one of those that the attempt has
-- drawn, from 1.
pub record IsDrawn (s : SessionData) (steps : ℕ) (c : Settings) (H : List PlainEntry) (n : NullName) : Type 0 where
  pub drawer : Update (machine (ground_of s steps c))
  pub number : numbered (updates_left s steps c H) n.update ≡ Some drawer
  pub present : drawer.withdrawn ≡ false
  pub by_attempt : n.attempt ≡ drawer.attempt
  pub from_one : 1 ≤ n.place
  pub among_drawn : n.place ≤ drawer.state.nulls

-- The null is of the base and keeps its name, or an update drew it.
abbrev pub HasItsName : SessionData → ℕ → Settings → List PlainEntry → NullName → Type 0
HasItsName s steps c H n = ((n.update ≡ 0) × (n.attempt ≡ 0)) ⊎ IsDrawn s steps c H n

-- The output of the run names its nulls.
pub record NamesNulls (s : SessionData) (steps : ℕ) (c : Settings) (H : List PlainEntry) : Type 0 where
  -- the repository written is what the committed updates left, each null by its update's number and its place
  pub written : (serial_told steps s).repository ≡ map outer (answered (left_after (committed_of s steps c H) s steps c H))
  -- each null that the first k updates left is of the base, or was drawn by the update of its number, at its place
  pub named : (k : ℕ) (n : NullName) → k ≤ length (updates_left s steps c H) → stands_in (left_after k s steps c H) (Unknown n) ≡ true → HasItsName s steps c H n
  -- no two of these nulls are printed as the same word
  pub apart : (k : ℕ) (m n : NullName) → k ≤ length (updates_left s steps c H) → stands_in (left_after k s steps c H) (Unknown m) ≡ true
      → stands_in (left_after k s steps c H) (Unknown n) ≡ true → null_word m ≡ null_word n → m ≡ n
