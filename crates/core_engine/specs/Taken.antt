-- The snapshot that is taken of a queued update.
use Rattle.std.specs.Prelude.{◌≡◌, ◌<◌, ◌+◌, ◌^◌, ℕ, suc, true, List, map, Some, slice_get}
use Rattle.base_types.specs.Meanings.{choice_of}
use Rattle.def_machine.specs.Standings.{standing, is_ready, next_answer}
use Rattle.def_machine.specs.Updates.{Settings}
use Rattle.def_chase.specs.Mappings.{Rule}
use Rattle.def_chase.specs.Repository.{apply}
use Rattle.chase_plan.specs.Planned.{at_rest, next_attempt, next_reads}
use Rattle.chase_plan.specs.Settled.{AreValidOver}
use Rattle.chase_query.specs.Meanings.{reads_in}
use Rattle.core_queue.specs.Queues.{update_of}
use Rattle.core_queue.specs.declared.updates.QueuedUpdate.{QueuedUpdate}
use Rattle.def_steps.specs.Chase.{caused_chase}
use Rattle.set_versions.specs.Standing.{Kept, seen}
use Rattle.core_engine.specs.Planned.{PlanMeant}

-- If there is a queued update at the place, the condition holds of it.
abbrev pub AtPlace : ℕ → List QueuedUpdate → (QueuedUpdate → Type 0) → Type 0
AtPlace k rs P = (r : QueuedUpdate) → slice_get rs k ≡ Some r → P r

-- The queued update is ready, with some settings and some number of committed updates.
pub record IsReadySomewhere (r : QueuedUpdate) : Type 0 where
  pub rules : List Rule
  pub budget : ℕ
  pub settings : Settings
  pub committed : ℕ
  pub number : ℕ
  pub ready : is_ready (standing (caused_chase rules budget) settings committed number (update_of rules budget r)) ≡ true

-- The versions have the writes of its attempt, whose reads are valid over what it sees; and its number is not the greatest of
-- 32 bits.
pub record IsHeldBy (ms : List Rule) (v : Kept) (r : QueuedUpdate) : Type 0 where
  pub applied : seen (suc r.program.attempt.number) v ≡ apply (seen r.program.attempt.number v) r.program.attempt.own
  pub few : r.program.attempt.number + 1 < 2 ^ 32
  pub valid : AreValidOver ms (seen r.program.attempt.number v) r.program.attempt (reads_in r.log.items)

-- The snapshot plans the next step of the queued update's attempt over what its update sees.
pub record IsSnapshotOf (ms : List Rule) (B : ℕ) (v : Kept) (r : QueuedUpdate) (p : PlanMeant) : Type 0 where
  pub update : p.update ≡ r.program.attempt.number
  pub program : p.program ≡ at_rest (next_attempt ms B (seen r.program.attempt.number v) r.program.attempt (next_answer (caused_chase ms B) (map choice_of r.answers.items) r.program.attempt))
  pub reads : p.reads ≡ next_reads ms (seen r.program.attempt.number v) r.program.attempt (next_answer (caused_chase ms B) (map choice_of r.answers.items) r.program.attempt)
