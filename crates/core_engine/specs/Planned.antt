-- The step that a plan stands for.
use Rattle.std.specs.Prelude.{◌≡◌, ℕ, zero, suc, List, Option, Some, None, slice_get}
use Rattle.def_machine.specs.Updates.{Update, below}
use Rattle.def_machine.specs.Standings.{next_answer}
use Rattle.def_chase.specs.Mappings.{Rule}
use Rattle.def_chase.specs.Values.{Fact}
use Rattle.chase_query.specs.Meanings.{Read}
use Rattle.def_steps.specs.Chase.{caused_chase}
use Rattle.chase_update.specs.Courses.{State as ProgramState}
use Rattle.chase_plan.specs.Planned.{at_rest, next_attempt, next_reads}
use Rattle.def_history.specs.Cores.{Ground, updates_after}
use Rattle.def_history.specs.PlainEntries.{PlainEntry}
use Rattle.core_engine.specs.States.{State}

-- The next step of an update: the update's number, the attempt after the step, and its reads.
pub record PlanMeant : Type 0 where
  pub update : ℕ
  pub program : ProgramState
  pub reads : List Read

-- The plan is the next step of this update over D.
pub record IsStepOver (ms : List Rule) (B : ℕ) (D : List Fact) (u : Update (caused_chase ms B)) (p : PlanMeant) : Type 0 where
  pub program : p.program ≡ at_rest (next_attempt ms B D u.state (next_answer (caused_chase ms B) u.answers u.state))
  pub reads : p.reads ≡ next_reads ms D u.state (next_answer (caused_chase ms B) u.answers u.state)

-- There is a value, and the condition holds of it.
abbrev pub IsSomeThat : {A : Type 0} → (A → Type 0) → Option A → Type 0
IsSomeThat P None = ⊥
IsSomeThat P (Some a) = P a

-- The plan is the next step of the update of this number over what lies below that update.
abbrev pub IsStepAmong : (ms : List Rule) (B : ℕ) → List Fact → List (Update (caused_chase ms B)) → ℕ → PlanMeant → Type 0
IsStepAmong ms B D us zero p = ⊥
IsStepAmong ms B D us (suc k) p = IsSomeThat (λ u. IsStepOver ms B (below (caused_chase ms B) D us k) u p) (slice_get us k)

-- The plan is the next step of its update after these entries, and at the state.
abbrev pub IsStepAfter : Ground → List PlainEntry → PlanMeant → Type 0
IsStepAfter g H p = IsStepAmong g.rules g.budget g.base (updates_after g H) p.update p

abbrev pub IsStepAt : State → PlanMeant → Type 0
IsStepAt s p = IsStepAfter s.over s.history p
