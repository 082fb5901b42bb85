-- The transitions of an attempt: its start, the beginning of a step, the answer to a step's query, and the step of the answer to
-- a question.
use Rattle.std.specs.Prelude.{◌≡◌, ℕ, Bool, true, is_some, List, Some, None}
use Rattle.def_chase.specs.Mappings.{Rule}
use Rattle.def_chase.specs.Queries.{Query, Reply}
use Rattle.def_chase.specs.Updates.{Operation}
use Rattle.base_types.specs.declared.updates.Choice.{Choice}
use Rattle.base_types.specs.Meanings.{choice_of}
use Rattle.chase_query.specs.declared.replies.Reply.{Reply as ReplyOfProgram}
use Rattle.chase_query.specs.Meanings.{reply_of}
use Rattle.def_steps.specs.Attempts.{begun}
use Rattle.def_steps.specs.Steps.{step, look_from}
use Rattle.chase_update.specs.Courses.{State, between, coming_to, course, by_reply}
use Rattle.chase_update.specs.Settled.{FindsNone, IsShorter}
use Rattle.chase_update.specs.Logged.{IsLogged}
use Rattle.chase_query.specs.Meanings.{Read}

-- The attempt of this number at an update, at its start.
abbrev pub IsAtStart : ℕ → ℕ → Operation → State → Type 0
IsAtStart number attempt op s = s ≡ between (begun number attempt op)

-- The next step has begun, within this budget.
abbrev pub HasBegun : List Rule → ℕ → State → State → Type 0
HasBegun ms B s s' = course ms s' ≡ coming_to B s.attempt (step ms s.attempt None)

-- The step in hand has gone on with the answer to its query.
abbrev pub HasAnswered : List Rule → ReplyOfProgram → State → State → Type 0
HasAnswered ms a s s' = course ms s' ≡ by_reply (course ms s) (reply_of a)

-- The step of the answer to the question has begun, within this budget.
abbrev pub HasChosen : List Rule → ℕ → Choice → State → State → Type 0
HasChosen ms B c s s' = course ms s' ≡ coming_to B s.attempt (step ms s.attempt (Some (choice_of c)))

-- A look has begun, within this budget.
abbrev pub HasLooked : List Rule → ℕ → State → State → Type 0
HasLooked ms B s s' = course ms s' ≡ coming_to B s.attempt (look_from s.attempt 0 ms)

-- While the step asks, the attempt is unchanged.
abbrev pub StaysWhileAsking : State → State → Type 0
StaysWhileAsking s s' = is_some s'.reading ≡ true → s'.attempt ≡ s.attempt

-- The look has passed over mappings with a mark: if these have no violation, it has the same result, with no more queries.
abbrev pub HasPassed : List Rule → List Bool → State → State → Type 0
HasPassed ms marks s s' = (val : Query → Reply) → FindsNone val marks → IsShorter val (course ms s) (course ms s')

-- The look has passed over mappings with a mark, and has logged a read of each, by an attempt that had made n writes. The reads
-- `before` followed by the reads of the step are the reads `after` followed by those that the step still makes.
abbrev pub HasPassedLogged : List Rule → List Bool → ℕ → State → List Read → State → List Read → Type 0
HasPassedLogged ms marks n s before s' after = (val : Query → Reply) → FindsNone val marks → IsLogged val n (course ms s) before (course ms s') after
