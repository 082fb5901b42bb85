-- Explanations of what the serial machine leaves of a session.
use Rattle.std.specs.Prelude.{◌≡◌, ℕ, List, Option, Some}
use Rattle.std.specs.List.{AllByRecursion}
use Rattle.def_chase.specs.Values.{Fact}
use Rattle.def_steps.specs.Chase.{every}
use Rattle.def_steps.specs.Serial.{turns_of}
use Rattle.def_provenance.specs.Courses.{serial_steps}
use Rattle.def_provenance.specs.Puts.{Step}
use Rattle.def_provenance.specs.Reasons.{Reason, explanation}
use Rattle.def_provenance.specs.Truths.{IsTrue}
use Rattle.def_language.specs.Checks.{rules_of}
use Rattle.def_language.specs.Sessions.{SessionData}
use Rattle.lang_session.specs.Meanings.{requests_in}

-- The steps that the serial machine makes of the session's updates, with a budget of steps for each.
abbrev pub steps_of : ℕ → SessionData → List Step
steps_of budget s = serial_steps every (rules_of s.mappings) budget s.base (turns_of (rules_of s.mappings) budget (requests_in s))

-- The explanation of a tuple in what the serial machine leaves.
abbrev pub explained_in : ℕ → SessionData → Fact → Option (List Reason)
explained_in budget s t = explanation (rules_of s.mappings) budget s.base (requests_in s) t

-- Each reason of such an explanation is true of the session's base and of these steps.
abbrev pub ExplainsTruly : ℕ → SessionData → Type 0
ExplainsTruly budget s =
    (t : Fact) (reasons : List Reason) → explained_in budget s t ≡ Some reasons
    → AllByRecursion (IsTrue (rules_of s.mappings) s.base (steps_of budget s)) reasons
