-- What a plan of a core stands for at a desk, and so does a snapshot, seen as the step that it plans.
use Rattle.std.specs.Prelude.{◌≡◌, ℕ, List, Option}
use Rattle.def_history.specs.Cores.{Ground}
use Rattle.def_history.specs.PlainEntries.{PlainEntry}
use Rattle.core_engine.specs.Planned.{PlanMeant, IsStepAfter}
use Rattle.work_desk.specs.Cores.{IsReady}
use Rattle.work_stale.specs.Stale.{stale_by}

-- After these entries update n is ready, and this is its next step.
pub record IsStepOf (p : PlanMeant) (g : Ground) (H : List PlainEntry) (n : ℕ) : Type 0 where
  pub update : p.update ≡ n
  pub ready : IsReady g H n
  pub step : IsStepAfter g H p

-- The number of the first entry after the first `since` by which the step is stale.
abbrev pub plan_stale_by : PlanMeant → Ground → List PlainEntry → ℕ → Option ℕ
plan_stale_by p g H since = stale_by g.rules p.update p.reads H since
