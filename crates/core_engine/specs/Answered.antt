-- What an answer by a person makes of the parts of a core.
use Rattle.std.specs.Prelude.{◌≡◌, ℕ, suc, List, map, Some, true, slice_get}
use Rattle.std.specs.Option.{option_map}
use Rattle.core_entries.specs.Meanings.{entry_of}
use Rattle.core_entries.specs.declared.entries.Entry.{Entry}
use Rattle.def_history.specs.PlainEntries.{WasAnswered}
use Rattle.def_machine.specs.Effects.{Answers, may_answer}
use Rattle.def_machine.specs.Standings.{standing}
use Rattle.def_machine.specs.Updates.{Settings, committed}
use Rattle.def_chase.specs.Mappings.{Rule}
use Rattle.def_chase.specs.Updates.{Choice, Operation}
use Rattle.def_chase.specs.Values.{Fact}
use Rattle.core_queue.specs.Queues.{update_of, updates_of}
use Rattle.core_queue.specs.declared.updates.QueuedUpdate.{QueuedUpdate}
use Rattle.def_steps.specs.Chase.{caused_chase}
use Rattle.def_steps.specs.Serial.{Request}
use Rattle.set_versions.specs.Standing.{Kept}
use Rattle.core_engine.specs.Follows.{Follows, ground_with}
use Rattle.core_engine.specs.Kept.{IsKept}

-- The entry records this answer to the update at the place.
abbrev pub TellsAnswer : Settings → ℕ → Choice → List QueuedUpdate → Entry → Type 0
TellsAnswer s k c rs e =
    (ms : List Rule) (B : ℕ) (r : QueuedUpdate) → slice_get rs k ≡ Some r
    → entry_of e ≡ WasAnswered (record {
      update = suc k;
      choice = c;
      standing = standing (caused_chase ms B) s (committed (caused_chase ms B) (updates_of ms B rs)) (suc k) (update_of ms B r);
    })

-- If update k + 1 is paused and the choice fits, this answer leads from these parts to those.
abbrev pub AnswersTo : Settings → ℕ → Choice → List QueuedUpdate → List Entry → List QueuedUpdate → List Entry → Type 0
AnswersTo s k c rs es rs' es' =
    (ms : List Rule) (v : Kept) (B : ℕ) (D : List Fact) (requests : List Request) (later : List Operation) → IsKept (ground_with ms s B D requests later) v rs (map entry_of es)
    → option_map (may_answer (caused_chase ms B) s (updates_of ms B rs) c k) (slice_get (updates_of ms B rs) k) ≡ Some true
    → Follows (ground_with ms s B D requests later) (Answers (suc k) c) (map entry_of es) v rs' (map entry_of es')
