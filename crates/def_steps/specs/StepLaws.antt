-- Laws of steps: a step depends only on its reads, and there is one at a question only if an answer fits.
use Rattle.std.specs.Prelude.{◌≡◌, ℕ, ◌≤◌, if◌then◌else◌, List, Option, Some, None, slice_get}
use Rattle.def_machine.specs.TreeLaw.{IsReplay}
use Rattle.def_machine.specs.Machine.{Laws}
use Rattle.def_machine.specs.Standings.{Missing, Misfit, lack}
use Rattle.def_chase.specs.Mappings.{Rule}
use Rattle.def_chase.specs.Violations.{Scope}
use Rattle.def_chase.specs.Updates.{Operation, Choice}
use Rattle.def_steps.specs.Attempts.{Question, Asked, Attempt, question_in}
use Rattle.def_steps.specs.Questions.{fits}
use Rattle.def_steps.specs.Steps.{step}
use Rattle.def_steps.specs.Chase.{chase}

-- A step depends only on its logged reads: if the queries get the logged answers, the step and its reads are the same.
abbrev pub StepsReplay : Type 0
StepsReplay = (ms : List Rule) (P : Attempt) (c : Option Choice) → IsReplay (step ms P c)

-- At a question the next answer is missing if there is none, and is a misfit exactly if it does not fit; elsewhere nothing is
-- lacking.
pub record FitsDecide (scope : Operation → Scope) (ms : List Rule) (B : ℕ) (answers : List Choice) (P : Attempt) : Type 0 where
  pub missing : (q : Question) → P.phase ≡ Asked q → slice_get answers P.taken ≡ None → lack (chase scope ms B) answers P ≡ Some Missing
  pub next : (q : Question) (c : Choice) → P.phase ≡ Asked q → slice_get answers P.taken ≡ Some c → lack (chase scope ms B) answers P ≡ (if fits q c then None else Some Misfit)
  pub elsewhere : question_in P.phase ≡ None → lack (chase scope ms B) answers P ≡ None

abbrev pub FitsDecideLacks : Type 0
FitsDecideLacks = (scope : Operation → Scope) (ms : List Rule) (B : ℕ) (answers : List Choice) (P : Attempt) → FitsDecide scope ms B answers P

-- The chase is a machine whose attempts may make at least one step.
abbrev pub ChaseIsMachine : Type 0
ChaseIsMachine = (scope : Operation → Scope) (ms : List Rule) (B : ℕ) → 1 ≤ B → Laws (chase scope ms B)
