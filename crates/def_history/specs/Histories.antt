-- Histories of the chase: attempts, in any order, that look at the violations which they caused; and the repository that they
-- leave.
use Rattle.std.specs.Prelude.{ℕ, List, [], ◌++◌, map}
use Rattle.def_machine.specs.Machine.{Machine}
use Rattle.def_machine.specs.Updates.{Update, Submission, Session, Settings, below, committed}
use Rattle.def_machine.specs.Effects.{Entry}
use Rattle.def_machine.specs.Histories.{IsLegal}
use Rattle.def_chase.specs.Values.{Fact}
use Rattle.def_chase.specs.Mappings.{Rule}
use Rattle.def_chase.specs.Updates.{Operation}
use Rattle.def_steps.specs.Chase.{caused_chase}
use Rattle.def_steps.specs.Serial.{Request}

module _ (ms : List Rule) (B : ℕ) where
  -- The machine of the chase with these mappings and this budget, whose attempts look at the violations that they caused.
  abbrev M : Machine
  M = caused_chase ms B

  -- The updates of a session as a history has them, each with its recorded answers.
  abbrev pub submissions : List Request → List (Submission M)
  submissions rs = map (λ (r : Request). record { operation = r.operation; answers = r.answers }) rs

  -- The session of this base and these updates, and of further ones that are handed in later, without answers.
  abbrev pub session_of : List Fact → List Request → List Operation → Session M
  session_of D rs ops = record { base = D; submissions = submissions (rs ++ map (λ op. record { operation = op; answers = [] }) ops) }

  -- The entries are a legal history over the session with the settings, and leave these updates. Each entry is the entry, with
  -- its causes, of an event that is allowed after the entries before it.
  abbrev pub IsLegalHistory : Settings → Session M → List (Entry M) → List (Update M) → Type 0
  IsLegalHistory s S H us = IsLegal M s S H us

  -- The committed repository, with the attempts of its nulls and the tuples that say which mappings were put in force.
  abbrev pub left : Session M → List (Update M) → List Fact
  left S us = below M S.base us (committed M us)
