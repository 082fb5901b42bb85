-- Where an update comes to rest.
use Rattle.std.specs.Prelude.{ℕ, List, Option}
use Rattle.def_machine.specs.Standings.{Lack}
use Rattle.def_machine.specs.Serial.{Turn, whole, run}
use Rattle.def_chase.specs.Values.{Fact}
use Rattle.def_chase.specs.Mappings.{Rule}
use Rattle.def_chase.specs.Updates.{Choice}
use Rattle.def_steps.specs.Attempts.{Attempt}
use Rattle.def_steps.specs.Chase.{caused, caused_chase}
use Rattle.def_steps.specs.Serial.{Request, at_rest}

-- Where an attempt comes to rest over D by the steps that it has left, with the lack if it stops at a question.
abbrev pub rest_from : List Rule → ℕ → List Fact → List Choice → ℕ → Attempt → Attempt × Option Lack
rest_from ms B D answers k P = at_rest caused ms B (run (caused_chase ms B) P.operation D answers k P)

-- The turn of an update with this number, by attempt 0.
abbrev pub turn_of : (ms : List Rule) (B : ℕ) → ℕ → Request → Turn (caused_chase ms B)
turn_of ms B n r = record { number = n; attempt = 0; operation = r.operation; answers = r.answers }

-- Where an update comes to rest that is taken whole over D.
abbrev pub whole_rest : (ms : List Rule) (B : ℕ) → List Fact → Turn (caused_chase ms B) → Attempt × Option Lack
whole_rest ms B D turn = at_rest caused ms B (whole (caused_chase ms B) D turn)
