-- The steps of the serial machine, in the order in which they are made.
use Rattle.std.specs.Prelude.{ℕ, zero, suc, Bool, true, false, if◌then◌else◌, List, [], ◌∷◌, ◌++◌, Option, Some, None, is_some}
use Rattle.def_machine.specs.Updates.{shown}
use Rattle.def_machine.specs.Standings.{Lack, lack, next_answer}
use Rattle.def_machine.specs.Steps.{next_move, next_state}
use Rattle.def_machine.specs.Serial.{Rest, Ends, Stops, Turn, whole}
use Rattle.def_chase.specs.Values.{Fact}
use Rattle.def_chase.specs.Repository.{apply}
use Rattle.def_chase.specs.Mappings.{Rule}
use Rattle.def_chase.specs.Violations.{Scope}
use Rattle.def_chase.specs.Updates.{Operation, Choice}
use Rattle.def_steps.specs.Attempts.{Outcome, Done, Spent, Refused, Attempt, begun, outcome_in}
use Rattle.def_steps.specs.Chase.{chase}
use Rattle.def_provenance.specs.Puts.{Step, step_by}

-- The step that an attempt takes next over D.
abbrev pub step_next : (scope : Operation → Scope) (ms : List Rule) (B : ℕ) → Operation → List Fact → List Choice → Attempt → Step
step_next scope ms B op D answers P =
    step_by ms D P (next_answer (chase scope ms B) answers P) (next_move (chase scope ms B) op D answers P)

-- The steps; none if an answer is lacking.
abbrev pub unless_lacking : Option Lack → List Step → List Step
unless_lacking None ss = ss
unless_lacking (Some l) ss = []

-- At most k steps over D, up to the end or a lack.
abbrev pub steps_from : (scope : Operation → Scope) (ms : List Rule) (B : ℕ) → Operation → List Fact → List Choice → ℕ → Attempt → List Step
steps_from scope ms B op D answers zero P = []
steps_from scope ms B op D answers (suc k) P =
    if is_some ((chase scope ms B).outcome P) then []
    else unless_lacking (lack (chase scope ms B) answers P)
    (step_next scope ms B op D answers P ∷ steps_from scope ms B op D answers k (next_state (chase scope ms B) op D answers P))

-- The steps of an update that is taken whole over D.
abbrev pub whole_steps : (scope : Operation → Scope) (ms : List Rule) (B : ℕ) → List Fact → Turn (chase scope ms B) → List Step
whole_steps scope ms B D t = steps_from scope ms B t.operation D t.answers B (begun t.number t.attempt t.operation)

-- The attempt has ended, and is done.
abbrev pub is_done_with : Option Outcome → Bool
is_done_with None = false
is_done_with (Some Done) = true
is_done_with (Some Spent) = false
is_done_with (Some (Refused n)) = false

-- The steps of an update that is done; none for one that is spent or refused, since none of its writes is left.
abbrev pub if_done : Attempt → List Step → List Step
if_done P ss = if is_done_with (outcome_in P.phase) then ss else []

-- The steps from the turn of an update over D on, given its own steps: these and those of the next turns, up to a stop.
abbrev pub steps_after : (scope : Operation → Scope) (ms : List Rule) (B : ℕ) → (List Fact → List Step) → List Fact → List Step → Rest (chase scope ms B) → List Step
steps_after scope ms B rest D ss (Ends P) = if_done P ss ++ rest (apply D (shown (chase scope ms B) P))
steps_after scope ms B rest D ss (Stops P l) = []

-- The steps of the updates that are done, one turn after the other, up to the first that stops.
abbrev pub serial_steps : (scope : Operation → Scope) (ms : List Rule) (B : ℕ) → List Fact → List (Turn (chase scope ms B)) → List Step
serial_steps scope ms B D [] = []
serial_steps scope ms B D (t ∷ ts) = steps_after scope ms B (λ E. serial_steps scope ms B E ts) D (whole_steps scope ms B D t) (whole (chase scope ms B) D t)
