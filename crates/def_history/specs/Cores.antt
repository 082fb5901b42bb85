-- The ground of a history, the updates that its entries leave, and the effects of events after them.
use Rattle.std.specs.Prelude.{◌≡◌, ℕ, suc, List, [], ◌∷◌, ◌++◌, map, Option, Some, None, unwrap_or, option_map, slice_get, length}
use Rattle.def_machine.specs.Machine.{Machine}
use Rattle.def_machine.specs.Updates.{Update, Session, Settings, committed}
use Rattle.def_machine.specs.Standings.{Standing, standing, question_of}
use Rattle.def_machine.specs.Effects.{Event, Effect, effect}
use Rattle.def_machine.specs.Histories.{Log, empty_log, after, event_of}
use Rattle.def_chase.specs.Values.{Fact}
use Rattle.def_chase.specs.Mappings.{Rule}
use Rattle.def_chase.specs.Updates.{Operation}
use Rattle.def_steps.specs.Attempts.{Question}
use Rattle.def_steps.specs.Chase.{caused_chase}
use Rattle.def_steps.specs.Serial.{Request}
use Rattle.def_history.specs.Histories.{session_of, IsLegalHistory}
use Rattle.def_history.specs.PlainEntries.{PlainEntry, plain_entry, entry_kept}

-- The ground of a history: the mappings, the budget of steps, the settings, the base, the updates of the session, and the updates
-- handed in later, which have no recorded answers.
pub record Ground : Type 0 where
  pub rules : List Rule
  pub budget : ℕ
  pub settings : Settings
  pub base : List Fact
  pub requests : List Request
  pub later : List Operation

-- The machine and the session of the history.
abbrev pub machine : Ground → Machine
machine g = caused_chase g.rules g.budget

abbrev pub session_over : (g : Ground) → Session (machine g)
session_over g = session_of g.rules g.budget g.base g.requests g.later

-- The entries as entries of the machine.
abbrev pub entries_over : (g : Ground) → List PlainEntry → List (Rattle.def_machine.specs.Effects.Entry (machine g))
entries_over g H = map (entry_kept g.rules g.budget) H

-- The updates of a log; none if there is no log.
abbrev pub updates_in : (M : Machine) → Option (Log M) → List (Update M)
updates_in M None = []
updates_in M (Some l) = l.updates

-- The updates that the events of the entries leave.
abbrev pub updates_after : (g : Ground) → List PlainEntry → List (Update (machine g))
updates_after g H = updates_in (machine g) (after (machine g) g.settings (session_over g) (empty_log (machine g)) (map event_of (entries_over g H)))

-- The entries are a legal history.
abbrev pub IsLegalOver : Ground → List PlainEntry → Type 0
IsLegalOver g H = IsLegalHistory g.rules g.budget g.settings (session_over g) (entries_over g H) (updates_after g H)

-- The effect of an event after these entries, if it is allowed.
abbrev pub effect_after : (g : Ground) → List PlainEntry → Event (machine g) → Option (Effect (machine g))
effect_after g H e = effect (machine g) g.settings (session_over g) (updates_after g H) e

-- The entries with the entry of the event, if it is allowed.
abbrev pub grown : (g : Ground) → List PlainEntry → Event (machine g) → Option (List PlainEntry)
grown g H e = option_map (λ x. H ++ plain_entry g.rules g.budget x.entry ∷ []) (effect_after g H e)
