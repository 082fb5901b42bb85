-- Histories as plain entries: the updates that they leave, and longer histories by the entries of allowed events.
use Rattle.std.specs.Prelude.{◌≡◌, ◌≤◌, List, [], ◌∷◌, ◌++◌, Some}
use Rattle.def_machine.specs.Updates.{Update}
use Rattle.def_machine.specs.Effects.{Event, Effect}
use Rattle.def_chase.specs.Updates.{Operation}
use Rattle.def_history.specs.Histories.{IsLegalHistory}
use Rattle.def_history.specs.PlainEntries.{PlainEntry, plain_entry}
use Rattle.def_history.specs.Cores.{Ground, machine, session_over, entries_over, updates_after, IsLegalOver, effect_after}

-- The entries are a legal history that leaves these updates.
pub record Leave (g : Ground) (H : List PlainEntry) (us : List (Update (machine g))) : Type 0 where
  pub legal : IsLegalOver g H
  pub leaves : updates_after g H ≡ us

-- The ground, with one more update handed in.
abbrev pub handed : Ground → Operation → Ground
handed g op = record { rules = g.rules; budget = g.budget; settings = g.settings; base = g.base; requests = g.requests; later = g.later ++ op ∷ [] }

-- The properties of the histories over g.
pub record AreOver (g : Ground) : Type 0 where
  pub empty : Leave g [] []
  -- a legal history of the machine that leaves these updates is one here
  pub same : (H : List PlainEntry) (us : List (Update (machine g))) → IsLegalHistory g.rules g.budget g.settings (session_over g) (entries_over g H) us → Leave g H us
  -- with the entry of an allowed event it is a longer legal history
  pub grows : (H : List PlainEntry) (e : Event (machine g)) (x : Effect (machine g)) → IsLegalOver g H → effect_after g H e ≡ Some x
      → Leave g (H ++ plain_entry g.rules g.budget x.entry ∷ []) x.updates
  -- handing in one more update does not change the history
  pub handing : (H : List PlainEntry) (op : Operation) → IsLegalOver g H → Leave (handed g op) H (updates_after g H)

-- This holds over every ground.
abbrev pub HistoriesAreKept : Type 0
HistoriesAreKept = (g : Ground) → 1 ≤ g.budget → AreOver g
