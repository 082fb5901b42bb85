-- The mappings that hold after an update taken whole, and throughout a run of the serial machine.
use Rattle.std.specs.Prelude.{◌≡◌, ℕ, ◌≤◌, List, take}
use Rattle.def_machine.specs.Updates.{shown}
use Rattle.def_machine.specs.Rests.{RestLaw}
use Rattle.def_machine.specs.Serial.{Ends, Turn, whole, serial}
use Rattle.def_chase.specs.Values.{NullName, Fact}
use Rattle.def_chase.specs.Repository.{apply}
use Rattle.def_chase.specs.Mappings.{Rule, AllHold}
use Rattle.def_chase.specs.Violations.{Scope}
use Rattle.def_chase.specs.Updates.{Operation}
use Rattle.def_chase.specs.Laws.{HaveNoNulls}
use Rattle.def_steps.specs.Attempts.{Done, Spent, Refused, Ended, Attempt}
use Rattle.def_steps.specs.Chase.{chase, every, caused, whole_chase, caused_chase}
use Rattle.def_steps.specs.Serial.{Request, told, turns_of, turns_in}
use Rattle.def_steps.specs.Looking.{NoneLater}
use Rattle.def_steps.specs.Timely.{IsTimely}

-- An update taken whole comes to rest within its budget of at least one step: either at an end, or at a question with its lack,
-- never both.
abbrev pub WholeRests : Type 0
WholeRests = (scope : Operation → Scope) (ms : List Rule) (B : ℕ) → 1 ≤ B → RestLaw (chase scope ms B)

-- The repository after an update taken whole over D. After Done every mapping in force holds, if none is in force whose `since`
-- is above the update's number; after Spent or Refused the repository is as before.
pub record Leaves (ms : List Rule) (B : ℕ) (D : List Fact) (t : Turn (whole_chase ms B)) (P : Attempt) : Type 0 where
  pub done : P.phase ≡ Ended Done → NoneLater t.number 0 ms (apply D P.own) → AllHold ms (apply D (shown (whole_chase ms B) P))
  pub spent : P.phase ≡ Ended Spent → apply D (shown (whole_chase ms B) P) ≡ D
  pub refused : (n : NullName) → P.phase ≡ Ended (Refused n) → apply D (shown (whole_chase ms B) P) ≡ D

abbrev pub HoldAfter : Type 0
HoldAfter = (ms : List Rule) (B : ℕ) (D : List Fact) (t : Turn (whole_chase ms B)) (P : Attempt) → 1 ≤ B → whole (whole_chase ms B) D t ≡ Ends P → Leaves ms B D t P

-- If the mappings in force hold in the base of a timely session, they hold after each of its updates.
abbrev pub HoldThroughout : Type 0
HoldThroughout =
    (ms : List Rule) (B : ℕ) (D : List Fact) (rs : List Request) (k : ℕ) → 1 ≤ B → IsTimely ms D rs → AllHold ms D
    → AllHold ms (serial (whole_chase ms B) D (turns_of ms B (take k rs))).repository

-- On such a session the serial machine has the same result in the caused scope, if no mapping has a null among its constants.
abbrev pub SerialScopesAgree : Type 0
SerialScopesAgree =
    (ms : List Rule) (B : ℕ) (D : List Fact) (rs : List Request) → 1 ≤ B → HaveNoNulls ms → IsTimely ms D rs → AllHold ms D
    → told caused ms B (serial (caused_chase ms B) D (turns_in caused ms B 1 rs)) ≡ told every ms B (serial (whole_chase ms B) D (turns_in every ms B 1 rs))
