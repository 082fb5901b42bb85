-- The state of an attempt to carry out an update: its phase, the repair in hand, its own writes and its counts.
use Rattle.std.specs.Prelude.{ℕ, List, [], Option, Some, None}
use Rattle.def_chase.specs.Values.{NullName, Datum, Fact}
use Rattle.def_chase.specs.Repository.{Change}
use Rattle.def_chase.specs.Updates.{Operation}

-- How an attempt ends: all mappings in force hold; its budget of steps has run out; or the update names this null, which is
-- nowhere in the repository.
pub data Outcome : Type 0 where
  Done : Outcome
  Spent : Outcome
  Refused : NullName → Outcome

-- The forward repair in hand: the mapping's number, the value of each of its variables, and the place of the next right atom,
-- counted from 0. The violation's image is the left side under these values.
pub record Repair : Type 0 where
  pub mapping : ℕ
  pub binding : List Datum
  pub atom : ℕ

-- The question at a frontier. A positive one has the repair, the generated tuple, and the candidates, which are the more specific
-- tuples. A negative one has the mapping's number and the distinct tuples of the violation's image.
pub data Question : Type 0 where
  Positive : Repair → Fact → List Fact → Question
  Negative : ℕ → List Fact → Question

-- What the next step does: start the operation, look for a violation, generate a right atom's tuple, or take the answer to a
-- question. After the end there is no next step.
pub data Phase : Type 0 where
  Start : Phase
  Look : Phase
  Generate : Repair → Phase
  Asked : Question → Phase
  Ended : Outcome → Phase

-- An attempt: the update's number, the attempt's number, the operation, the phase, the own writes in the order in which they were
-- made, and the numbers of steps made, nulls drawn and answers taken.
pub record Attempt : Type 0 where
  pub number : ℕ
  pub attempt : ℕ
  pub operation : Operation
  pub phase : Phase
  pub own : List Change
  pub steps : ℕ
  pub nulls : ℕ
  pub taken : ℕ

-- Attempt a of update u at its start.
abbrev pub begun : ℕ → ℕ → Operation → Attempt
begun u a op = record { number = u; attempt = a; operation = op; phase = Start; own = []; steps = 0; nulls = 0; taken = 0 }

-- The question at which the attempt waits, if it does.
abbrev pub question_in : Phase → Option Question
question_in Start = None
question_in Look = None
question_in (Generate r) = None
question_in (Asked q) = Some q
question_in (Ended o) = None

-- How the attempt ended, if it did.
abbrev pub outcome_in : Phase → Option Outcome
outcome_in Start = None
outcome_in Look = None
outcome_in (Generate r) = None
outcome_in (Asked q) = None
outcome_in (Ended o) = Some o
