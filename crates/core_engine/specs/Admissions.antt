-- What the admission of one more update makes of the parts of a core.
use Rattle.std.specs.Prelude.{◌≡◌, ℕ, List, [], ◌∷◌, ◌++◌, map}
use Rattle.core_entries.specs.Meanings.{entry_of}
use Rattle.core_entries.specs.declared.entries.Entry.{Entry}
use Rattle.def_machine.specs.Effects.{Admits, admitted}
use Rattle.def_machine.specs.Updates.{Settings}
use Rattle.def_chase.specs.Mappings.{Rule}
use Rattle.def_chase.specs.Updates.{Operation}
use Rattle.def_chase.specs.Values.{Fact}
use Rattle.core_queue.specs.Queues.{update_of, StandsAt}
use Rattle.core_queue.specs.declared.updates.QueuedUpdate.{QueuedUpdate}
use Rattle.def_steps.specs.Chase.{caused_chase}
use Rattle.def_steps.specs.Serial.{Request}
use Rattle.set_versions.specs.Standing.{Kept}
use Rattle.core_engine.specs.Follows.{Follows, ground_with}
use Rattle.core_engine.specs.Kept.{IsKept}

-- One more queued update stands after the others: update n as it is when it is admitted, with no recorded answers.
pub record IsNew (n : ℕ) (op : Operation) (rs rs' : List QueuedUpdate) : Type 0 where
  pub last : QueuedUpdate
  pub longer : rs' ≡ rs ++ last ∷ []
  pub update : (ms : List Rule) (B : ℕ) → update_of ms B last ≡ admitted (caused_chase ms B) n (record { operation = op; answers = [] })
  pub stands : StandsAt n last

-- The admission of one more update leads from these parts to those, which are also over that update.
abbrev pub AdmitsTo : Operation → List QueuedUpdate → List Entry → List QueuedUpdate → List Entry → Type 0
AdmitsTo op rs es rs' es' =
    (ms : List Rule) (s : Settings) (v : Kept) (B : ℕ) (D : List Fact) (requests : List Request) (later : List Operation) → IsKept (ground_with ms s B D requests later) v rs (map entry_of es)
    → Follows (ground_with ms s B D requests (later ++ op ∷ [])) Admits (map entry_of es) v rs' (map entry_of es')
