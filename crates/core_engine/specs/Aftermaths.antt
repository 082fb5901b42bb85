-- What an event leaves of the versions and of the updates above it.
use Rattle.std.specs.Prelude.{◌≡◌, Bool, true, false, if◌then◌else◌, List, [], ◌∷◌, ◌++◌, Option, Some, None, is_some}
use Rattle.std.specs.List.{flat_map}
use Rattle.core_entries.specs.declared.causes.Cause.{Cause}
use Rattle.core_entries.specs.declared.causes.Cause.TheVariants.{Conflict, Depends}
use Rattle.def_machine.specs.Updates.{trail}
use Rattle.def_chase.specs.Repository.{Change}
use Rattle.def_steps.specs.Chase.{caused_chase}
use Rattle.core_queue.specs.Queues.{update_of}
use Rattle.core_queue.specs.Programs.{IsBetween}
use Rattle.core_queue.specs.declared.updates.QueuedUpdate.{QueuedUpdate}
use Rattle.set_versions.specs.Standing.{Kept, Retracted}

-- ---- causes

abbrev pub is_conflict : Cause → Bool
is_conflict (Conflict reader read writer old new) = true
is_conflict (Depends reader read on) = false

-- The cause, if it is a conflict, and if it is a dependence.
abbrev pub conflict_in : Option Cause → List Cause
conflict_in None = []
conflict_in (Some c) = if is_conflict c then c ∷ [] else []

abbrev pub dependence_in : Option Cause → List Cause
dependence_in None = []
dependence_in (Some c) = if is_conflict c then [] else c ∷ []

-- The conflicts, and then the dependences.
abbrev pub in_order : List (Option Cause) → List Cause
in_order xs = flat_map conflict_in xs ++ flat_map dependence_in xs

-- ---- versions

-- The writes that others see of the update.
abbrev pub trail_of : QueuedUpdate → List Change
trail_of r = trail (caused_chase [] 0) (update_of [] 0 r)

-- Each of them stands between two steps.
abbrev pub AllBetween : List QueuedUpdate → Type 0
AllBetween [] = Unit {0}
AllBetween (r ∷ rs) = IsBetween r.program × AllBetween rs

-- If the update has a cause, its trail is taken back.
abbrev pub ClearedIf : Bool → QueuedUpdate → Kept → Kept → Type 0
ClearedIf true r old new = Retracted r.program.attempt.number (trail_of r) old new
ClearedIf false r old new = old ≡ new

-- The trails of the updates that have a cause are taken back, one after the other.
abbrev pub Cleared : List QueuedUpdate → List (Option Cause) → Kept → Kept → Type 0
Cleared [] xs old new = old ≡ new
Cleared (r ∷ rs) [] old new = old ≡ new
Cleared (r ∷ rs) (x ∷ xs) old new = (mid : Kept) × ClearedIf (is_some x) r old mid × Cleared rs xs mid new
