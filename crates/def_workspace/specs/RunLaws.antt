-- A run of an op agrees with the serial machine.
use Rattle.std.specs.Prelude.{◌≡◌, ℕ, List}
use Rattle.def_machine.specs.Serial.{Ends, Turn, whole}
use Rattle.def_chase.specs.Values.{Fact}
use Rattle.def_chase.specs.Updates.{Operation, Choice}
use Rattle.def_steps.specs.Attempts.{Attempt}
use Rattle.def_steps.specs.Chase.{chase}
use Rattle.def_workspace.specs.Runs.{Setting, Thread, Rests, rules_of, run_op}

-- The turn of an op at the serial machine: its number, its operation, and the choices that it took.
abbrev pub turn_of : (s : Setting) → ℕ → Operation → List Choice → Turn (chase s.scope (rules_of s.active) s.steps)
turn_of s seq op cs = record { number = seq; attempt = 0; operation = op; answers = cs }

-- An op that comes to rest agrees with the serial machine: the machine ends at the same state if it takes the op's operation
-- whole over the same repository, with the choices that the op took.
abbrev pub OpsAreSerial : Type 0
OpsAreSerial =
    (s : Setting) (D : List Fact) (seq : ℕ) (op : Operation) (t : Thread) (P : Attempt) (cs : List Choice) (u : Thread)
    → run_op s D seq op t ≡ Rests P cs u
    → whole (chase s.scope (rules_of s.active) s.steps) D (turn_of s seq op cs) ≡ Ends P
