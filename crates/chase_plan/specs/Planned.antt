-- The next step of an attempt over the repository below it: the attempt after the step, and its reads.
use Rattle.std.specs.Prelude.{◌≡◌, ℕ, Bool, List, length, map, Option, Some, None}
use Rattle.def_machine.specs.Trees.{result_of, log_of}
use Rattle.def_chase.specs.Values.{Fact}
use Rattle.def_chase.specs.Mappings.{Rule}
use Rattle.def_chase.specs.Queries.{Query, Reply, value}
use Rattle.def_chase.specs.Updates.{Choice, direction_of}
use Rattle.def_chase.specs.Violations.{Caused}
use Rattle.chase_eval.specs.Watched.{AreSettled}
use Rattle.chase_query.specs.Meanings.{Read}
use Rattle.def_steps.specs.Attempts.{Attempt}
use Rattle.def_steps.specs.Steps.{step, moved}
use Rattle.chase_update.specs.Courses.{State}
use Rattle.chase_update.specs.Logged.{read_after}
use Rattle.chase_update.specs.Wishes.{Wish, WishesStep, Fits}

-- An attempt between two steps.
abbrev pub at_rest : Attempt → State
at_rest P = record { attempt = P; reading = None }

-- The attempt wants a step with this answer, or a step without one.
abbrev pub WantsStep : Wish → Option Choice → Type 0
WantsStep w None = w ≡ WishesStep
WantsStep w (Some c) = Fits w c

-- The answers to the attempt's queries over D. Only those violations count that it caused.
abbrev pub answers_over : List Rule → List Fact → Attempt → Query → Reply
answers_over ms D P q = value ms q D P.own (Caused (direction_of P.operation))

-- Over D the attempt's writes have caused no violation of the mappings with a mark.
abbrev pub HasSettled : List Rule → List Fact → Attempt → List Bool → Type 0
HasSettled ms D P marks = AreSettled (record { rules = ms; heading = direction_of P.operation; below = D; own = P.own }) marks

-- The attempt after its next step over D, with this answer if it is at a question.
abbrev pub next_attempt : List Rule → ℕ → List Fact → Attempt → Option Choice → Attempt
next_attempt ms B D P c = moved B P (result_of (answers_over ms D P) (step ms P c))

-- The reads of that step.
abbrev pub next_reads : List Rule → List Fact → Attempt → Option Choice → List Read
next_reads ms D P c = map (read_after (length P.own)) (log_of (answers_over ms D P) (step ms P c))
