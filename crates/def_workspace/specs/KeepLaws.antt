-- Laws of lines: the mappings in force keep holding, and an update that waits changes nothing.
use Rattle.std.specs.Prelude.{◌≡◌, ℕ, true, List, Some, slice_get}
use Rattle.def_chase.specs.Values.{Fact}
use Rattle.def_chase.specs.Mappings.{Holds}
use Rattle.def_steps.specs.Chase.{every}
use Rattle.def_workspace.specs.Lines.{Update, Given, Declared, Line}
use Rattle.def_workspace.specs.Places.{Places, among}
use Rattle.def_workspace.specs.Runs.{Reason}
use Rattle.def_workspace.specs.Worlds.{World, Done, Left, run_update, settled}
use Rattle.def_workspace.specs.States.{Live, State, done_by, replayed}

-- Each mapping of these numbers holds in the repository.
abbrev pub MappingsHold : List Declared → List ℕ → List Fact → Type 0
MappingsHold ds ms D = (m : ℕ) (d : Declared) → among ms m ≡ true → slice_get ds m ≡ Some d → Holds d.rule D

-- Each mapping in force holds.
abbrev pub InForceHold : List Declared → World → Type 0
InForceHold ds w = MappingsHold ds w.in_force w.facts

-- No mapping that is declared waits for an update of a session to put it in force.
abbrev pub ArePlain : List Declared → Type 0
ArePlain ds = (m : ℕ) (d : Declared) → slice_get ds m ≡ Some d → d.rule.since ≡ 0

-- If the mappings in force hold, they hold after a run that is done.
abbrev pub RunsKeepMappings : Type 0
RunsKeepMappings =
    (ds : List Declared) (w v : World) (ps qs : Places) (u : Update) (gs : List Given) (n : ℕ) → ArePlain ds → InForceHold ds w
    → run_update every ds w ps u gs ≡ Done v qs n → InForceHold ds v

-- If the mappings in force hold, they hold after a line that counts; and if they held at the last fold, they hold after a replay.
abbrev pub LinesKeepMappings : Type 0
LinesKeepMappings =
    (ds : List Declared) (l : Live) (x : Line) → ArePlain ds → InForceHold ds l.world → InForceHold ds (done_by every ds l x).world

abbrev pub ReplaysKeepMappings : Type 0
ReplaysKeepMappings = (S : State) → ArePlain S.declared → InForceHold S.declared S.base → InForceHold S.declared (replayed every S).world

-- The two worlds have the same repository, with the same names, mappings in force and updates that stand.
pub record StandAlike (w v : World) : Type 0 where
  pub facts : v.facts ≡ w.facts
  pub last : v.last ≡ w.last
  pub names : v.names ≡ w.names
  pub in_force : v.in_force ≡ w.in_force
  pub gone : v.gone ≡ w.gone
  pub order : v.order ≡ w.order

-- After a run that is not done, the repository, the names, the mappings in force and the updates that stand are as before.
abbrev pub WaitingChangesNothing : Type 0
WaitingChangesNothing = (w : World) (u : Update) (gs : List Given) (r : Reason) (ps : Places) (n : ℕ) → StandAlike w (settled w u gs (Left r ps n))
