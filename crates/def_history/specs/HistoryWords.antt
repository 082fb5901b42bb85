-- Abbreviations for histories of the chase, with a budget of 100 steps.
use Rattle.std.specs.Prelude.{ℕ, suc, Bool, List, [], ◌∷◌, Option}
use Rattle.std.specs.Option.{option_map}
use Rattle.def_machine.specs.Updates.{Update, Session, Settings, Deps, committed}
use Rattle.def_machine.specs.Standings.{Standing, standing, is_quiet}
use Rattle.def_machine.specs.Cascade.{Cause}
use Rattle.def_machine.specs.Effects.{Event, Entry, Stepped}
use Rattle.def_machine.specs.Histories.{Log, empty_log, after}
use Rattle.def_chase.specs.Values.{Datum, Unknown, Fact}
use Rattle.def_chase.specs.Repository.{Change}
use Rattle.def_chase.specs.Mappings.{Rule}
use Rattle.def_steps.specs.Chase.{caused_chase}
use Rattle.def_steps.specs.Serial.{Request}
use Rattle.def_history.specs.Histories.{session_of, left}

-- The null ?u.k of attempt a.
abbrev pub null_by : ℕ → ℕ → ℕ → Datum
null_by u a k = Unknown record { update = u; attempt = a; place = k }

-- The entry of a step: the update, the attempt, the standing after it, the writes, the causes, and the number of updates
-- committed after it.
abbrev pub a_step : (ms : List Rule) → ℕ → ℕ → Standing → List Change → List (Cause (caused_chase ms 100)) → ℕ → Entry (caused_chase ms 100)
a_step ms i a st ws cs c = Stepped (record { update = i; attempt = a; standing = st; writes = ws; causes = cs; committed = c })

-- The standings of the updates, if c are committed; the first is update n.
abbrev pub standings : (ms : List Rule) → Settings → ℕ → ℕ → List (Update (caused_chase ms 100)) → List Standing
standings ms s c n [] = []
standings ms s c n (u ∷ us) = standing (caused_chase ms 100) s c n u ∷ standings ms s c (suc n) us

-- The result of a history: its entries, the standing of each update, the committed repository with the attempts of its nulls, and
-- whether it is quiet.
pub record Left (ms : List Rule) : Type 0 where
  pub entries : List (Entry (caused_chase ms 100))
  pub standings : List Standing
  pub repository : List Fact
  pub quiet : Bool

-- The result of a history, from its log.
abbrev pub left_of : (ms : List Rule) → Settings → Session (caused_chase ms 100) → Log (caused_chase ms 100) → Left ms
left_of ms s S l =
    record {
      entries = l.entries;
      standings = standings ms s (committed (caused_chase ms 100) l.updates) 1 l.updates;
      repository = left ms 100 S l.updates;
      quiet = is_quiet (caused_chase ms 100) s l.updates;
    }

-- The result of the events over this base and these updates, with K retries, if each event is allowed in turn.
abbrev pub left_by : (ms : List Rule) → ℕ → Deps → List Fact → List Request → List (Event (caused_chase ms 100)) → Option (Left ms)
left_by ms K deps D rs es =
    option_map (left_of ms (record { retries = K; deps = deps }) (session_of ms 100 D rs []))
    (after (caused_chase ms 100) (record { retries = K; deps = deps }) (session_of ms 100 D rs []) (empty_log (caused_chase ms 100)) es)
