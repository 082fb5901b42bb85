-- The marks that a core keeps of one of its updates.
use Rattle.std.specs.Prelude.{◌≡◌, ◌++◌, ◌≤◌, ℕ, List, length, take, Some, slice_get}
use Rattle.def_chase.specs.Mappings.{Rule}
use Rattle.def_chase.specs.Repository.{Change}
use Rattle.def_chase.specs.Values.{Fact}
use Rattle.chase_plan.specs.Settled.{HasSettledBy}
use Rattle.core_queue.specs.Queues.{updates_of}
use Rattle.core_queue.specs.declared.updates.QueuedUpdate.{QueuedUpdate}
use Rattle.set_versions.specs.Standing.{Kept, seen}
use Rattle.core_engine.specs.States.{numbered_at}
use Rattle.core_engine.specs.declared.known.Known.{Known}

-- The attempt has made at least k.made writes. Over D the first k.made of them have caused no violation of the mappings that
-- have a mark.
pub record AreMarksOver (ms : List Rule) (D : List Fact) (r : QueuedUpdate) (k : Known) : Type 0 where
  pub few : k.made ≤ length r.program.attempt.own
  pub settled : HasSettledBy k.made ms D r.program.attempt k.marks

-- The marks are the queued update's, over what its update sees.
pub record AreMarksOf (ms : List Rule) (v : Kept) (r : QueuedUpdate) (k : Known) : Type 0 where
  pub update : k.update ≡ r.program.attempt.number
  pub marks : AreMarksOver ms (seen r.program.attempt.number v) r k

-- The marks are right for the update of their number, if there is one, over what it sees.
abbrev pub IsKnown : List Rule → Kept → List QueuedUpdate → Known → Type 0
IsKnown ms v rs k = (r : QueuedUpdate) → numbered_at rs k.update ≡ Some r → AreMarksOver ms (seen k.update v) r k

-- The attempt of the queued update has as many writes as before, or more.
pub record HasGrown (r r' : QueuedUpdate) : Type 0 where
  pub operation : r'.program.attempt.operation ≡ r.program.attempt.operation
  pub own : (more : List Change) × (r'.program.attempt.own ≡ r.program.attempt.own ++ more)

-- The updates below the place are as they were, and the attempt at the place has grown.
pub record GrowsAt (k : ℕ) (rs rs' : List QueuedUpdate) : Type 0 where
  pub lower : (ms : List Rule) (B : ℕ) → take k (updates_of ms B rs') ≡ take k (updates_of ms B rs)
  pub grown : (r r' : QueuedUpdate) → slice_get rs k ≡ Some r → slice_get rs' k ≡ Some r' → HasGrown r r'
