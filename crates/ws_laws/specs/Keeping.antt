-- Over a whole log the mappings in force keep holding.
use Rattle.std.specs.Prelude.{ℕ, List}
use Rattle.def_steps.specs.Chase.{every}
use Rattle.def_workspace.specs.Lines.{Declared, Line}
use Rattle.def_workspace.specs.States.{Live}
use Rattle.def_workspace.specs.KeepLaws.{InForceHold, ArePlain}
use Rattle.ws_laws.specs.Logs.{opened, state_of, Throughout, IsSound, AreDeclared}

-- If the mappings in force hold when a log is opened, then those in force after it hold, whatever it undoes or does again.
abbrev pub LogsKeepMappings : Type 0
LogsKeepMappings =
    (ds : List Declared) (n : ℕ) (l : Live) (xs : List Line) → AreDeclared ds l.world → InForceHold ds l.world
    → Throughout every IsSound (opened ds n l) xs → ArePlain (state_of every ds n l xs).declared
    → InForceHold (state_of every ds n l xs).declared (state_of every ds n l xs).live.world
