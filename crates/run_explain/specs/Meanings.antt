-- Which list of reasons explains a tuple.
use Rattle.std.specs.Prelude.{◌≡◌, ℕ, Option, Some}
use Rattle.std.specs.Option.{option_map}
use Rattle.def_chase.specs.Values.{Fact}
use Rattle.base_types.specs.Listed.{Listed}
use Rattle.def_language.specs.Checks.{rules_of}
use Rattle.def_language.specs.Sessions.{SessionData}
use Rattle.lang_session.specs.Meanings.{requests_in}
use Rattle.def_provenance.specs.Reasons.{explanation, IsExplanation}
use Rattle.run_explain.specs.ReasonMeanings.{reasons_in}
use Rattle.run_explain.specs.declared.reasons.Reason.{Reason}

-- This is the explanation of the tuple in what the serial machine leaves of the session, with a budget of B steps for each
-- update; none if the tuple is not there.
abbrev pub Explains : ℕ → SessionData → Fact → Option (Listed Reason) → Type 0
Explains B s t e = option_map reasons_in e ≡ explanation (rules_of s.mappings) B s.base (requests_in s) t

-- These reasons are the explanation of their first tuple in what the serial machine leaves.
abbrev pub IsExplained : ℕ → SessionData → Listed Reason → Type 0
IsExplained B s rs = IsExplanation (rules_of s.mappings) B s.base (requests_in s) (reasons_in rs)

-- These reasons explain the tuple in what the serial machine leaves.
abbrev pub IsTold : ℕ → SessionData → Fact → Listed Reason → Type 0
IsTold B s t rs = explanation (rules_of s.mappings) B s.base (requests_in s) t ≡ Some (reasons_in rs)
