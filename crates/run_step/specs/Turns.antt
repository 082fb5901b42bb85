-- What an attempt between two steps does next, and its state after that.
use Rattle.std.specs.Prelude.{◌≡◌, ℕ, List, Option, Some, None, slice_get, if◌then◌else◌}
use Rattle.def_machine.specs.Trees.{result_of}
use Rattle.def_machine.specs.Standings.{Lack, Missing, Misfit}
use Rattle.def_chase.specs.Values.{Fact}
use Rattle.def_chase.specs.Mappings.{Rule}
use Rattle.def_chase.specs.Queries.{Query, Reply, value}
use Rattle.def_chase.specs.Repository.{Change}
use Rattle.def_chase.specs.Violations.{Caused}
use Rattle.def_chase.specs.Updates.{Choice, direction_of}
use Rattle.chase_question.specs.Inquiries.{Inquiry, fits_inquiry}
use Rattle.def_steps.specs.Attempts.{Attempt}
use Rattle.def_steps.specs.Steps.{step, moved}
use Rattle.def_steps.specs.Chase.{caused}
use Rattle.chase_eval.specs.Watched.{Watched}
use Rattle.chase_update.specs.Courses.{State, between, coming_to, course}
use Rattle.chase_update.specs.Wishes.{Wish, WishesReply, WishesChoice, WishesNothing, WishesStep, Fits}

-- What an attempt does next: a step, with this answer if it is at a question; or it rests, because it has ended or because
-- something is lacking.
pub data Next : Type 0 where
  Steps : Option Choice → Next
  Rests : Option Lack → Next

-- What comes next at a question, with the next answer if there is one.
abbrev pub at_question : Inquiry → Option Choice → Next
at_question i None = Rests (Some Missing)
at_question i (Some c) = if fits_inquiry i c then Steps (Some c) else Rests (Some Misfit)

-- What an attempt does next that wishes this, if `taken` answers were taken and these are all answers.
abbrev pub next_by : Wish → ℕ → List Choice → Next
next_by (WishesReply q) taken answers = Steps None
next_by (WishesChoice i) taken answers = at_question i (slice_get answers taken)
next_by (WishesNothing e) taken answers = Rests None
next_by WishesStep taken answers = Steps None

-- A step with this answer is wanted, or one without.
abbrev pub StepsBy : Wish → Option Choice → Type 0
StepsBy w None = w ≡ WishesStep
StepsBy w (Some c) = Fits w c

-- The reply to a query in the view.
abbrev pub answer_in : List Rule → Watched → Query → Reply
answer_in ms v q = value ms q v.below v.own (Caused v.heading)

-- The program at the end of its present step, whose queries are answered in the view.
abbrev pub ended_in : List Rule → Watched → State → State
ended_in ms v s = between (result_of (answer_in ms v) (course ms s))

-- What an attempt sees of a repository: these mappings, in its direction, with its own writes.
abbrev pub view_of : List Rule → List Fact → Attempt → Watched
view_of ms D P = record { rules = ms; heading = direction_of P.operation; below = D; own = P.own }

-- The view with these own writes in place of its own.
abbrev pub seen_with : Watched → List Change → Watched
seen_with v own = record { rules = v.rules; heading = v.heading; below = v.below; own = own }

-- The step has begun, with this answer if the attempt is at a question, within this budget.
abbrev pub HasBegunBy : List Rule → ℕ → Option Choice → State → State → Type 0
HasBegunBy ms B c s s' = course ms s' ≡ coming_to B s.attempt (step ms s.attempt c)

-- The attempt after its step over D, with this answer if it is at a question. It sees the violations that it caused.
abbrev pub stepped : List Rule → ℕ → List Fact → Attempt → Option Choice → Attempt
stepped ms B D P c = moved B P (result_of (λ q. value ms q D P.own (caused P.operation)) (step ms P c))

-- The program has made such a step.
abbrev pub HasStepped : List Rule → ℕ → List Fact → Option Choice → State → State → Type 0
HasStepped ms B D c s s' = s' ≡ between (stepped ms B D s.attempt c)
