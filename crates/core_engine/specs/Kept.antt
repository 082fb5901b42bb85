-- What is true of the parts of a core: its history left the queue and the versions.
use Rattle.std.specs.Prelude.{◌≡◌, ℕ, ◌+◌, ◌-◌, ◌≤◌, ◌<◌, ◌^◌, List, map, length}
use Rattle.def_machine.specs.Updates.{Settings, Update, trail}
use Rattle.def_chase.specs.Mappings.{Rule}
use Rattle.def_chase.specs.Values.{Fact}
use Rattle.def_chase.specs.Repository.{IsRepository}
use Rattle.base_types.specs.Meanings.{fact_of, operation_of}
use Rattle.base_types.specs.Listed.{Listed}
use Rattle.base_types.specs.declared.tuples.Tuple.{Tuple}
use Rattle.base_types.specs.declared.updates.Update.{Update as UpdateOfProgram}
use Rattle.lang_session.specs.Meanings.{request_of, update_of as session_update_of}
use Rattle.lang_session.specs.declared.sessions.SessionUpdate.{SessionUpdate}
use Rattle.def_steps.specs.Chase.{caused_chase}
use Rattle.set_versions.specs.Standing.{Kept, StandFor}
use Rattle.set_versions.specs.Trails.{numbered}
use Rattle.core_queue.specs.Queues.{updates_of, AreFrom}
use Rattle.core_queue.specs.declared.updates.QueuedUpdate.{QueuedUpdate}
use Rattle.base_limits.specs.Within.{AreWithin}
use Rattle.def_history.specs.PlainEntries.{PlainEntry}
use Rattle.def_history.specs.Cores.{Ground}
use Rattle.def_history.specs.CoreLaws.{Leave}

-- What the history of a core with these parts is over.
abbrev pub ground_by : List Rule → ℕ → Settings → Listed Tuple → Listed SessionUpdate → Listed UpdateOfProgram → Ground
ground_by ms B c base requests later =
    record { rules = ms; budget = B; settings = c; base = map fact_of base.items; requests = map request_of (map session_update_of requests.items); later = map (λ (u : UpdateOfProgram). operation_of u.operation) later.items }

-- The versions have the base and the trails of these updates.
abbrev pub HaveTrails : (ms : List Rule) (B : ℕ) → List Fact → List (Update (caused_chase ms B)) → Kept → Type 0
HaveTrails ms B D us v = StandFor v D (numbered (trail (caused_chase ms B)) us)

-- The queue and the versions are what the entries left.
pub record IsKept (g : Ground) (v : Kept) (rs : List QueuedUpdate) (H : List PlainEntry) : Type 0 where
  -- the updates are the history's
  pub left : Leave g H (updates_of g.rules g.budget rs)
  -- each stands between two steps, and has the number of its place
  pub numbers : AreFrom 1 rs
  -- what an update sees is the base with the trails below it
  pub versions : HaveTrails g.rules g.budget g.base (updates_of g.rules g.budget rs) v
  pub sorted : IsRepository g.base
  pub budget : 1 ≤ g.budget
  pub retries : g.settings.retries ≤ 4
  pub within : AreWithin g.rules
  pub few : length rs < 2 ^ 32 - 1
  -- each update that was handed in is admitted
  pub all : length rs ≡ length g.requests + length g.later
