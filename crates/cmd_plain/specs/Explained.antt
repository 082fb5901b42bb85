-- What the command `explain` makes of a session.
use Rattle.std.specs.Prelude.{ℕ, List, Option, Some, None, codes}
use Rattle.cmd_frame.specs.Outputs.{OutputView, Text}
use Rattle.cmd_plain.specs.Commands.{unless_violated}
use Rattle.cmd_plain.specs.Runs.{ending_by}
use Rattle.run_explain.specs.Texts.{explanation_text}
use Rattle.def_language.specs.Checks.{rules_of}
use Rattle.def_language.specs.Meaning.{fact_of}
use Rattle.def_language.specs.Sessions.{SessionData}
use Rattle.def_language.specs.Statements.{WrittenFact}
use Rattle.def_chase.specs.Values.{Fact}
use Rattle.chase_update.specs.Results.{ResultTold}
use Rattle.def_provenance.specs.Reasons.{Reason, explanation}
use Rattle.lang_reader.specs.Facts.{known_fact}
use Rattle.lang_report.specs.Results.{serial_told}
use Rattle.lang_session.specs.Base.{base_violation}
use Rattle.lang_session.specs.Meanings.{requests_in}

-- the text for a tuple that is absent
abbrev pub absent_text : List ℕ
absent_text = codes "absent\n"

-- the lines of the tuple's reasons, or that it is absent
abbrev pub reasons_text : SessionData → Option (List Reason) → List ℕ
reasons_text s None = absent_text
reasons_text s (Some reasons) = explanation_text s reasons

-- the explanation of a tuple in the repository that the serial machine leaves, with `steps` steps for each update
abbrev pub explanation_in : ℕ → SessionData → Fact → Option (List Reason)
explanation_in steps s t = explanation (rules_of s.mappings) steps s.base (requests_in s) t

-- the reasons for a fact; one that fits no relation is in no repository
abbrev pub reasons_for : ℕ → SessionData → Option Fact → Option (List Reason)
reasons_for steps s None = None
reasons_for steps s (Some t) = explanation_in steps s t

-- the output of a run, with these reasons
abbrev pub reasons_output : SessionData → ResultTold → Option (List Reason) → OutputView
reasons_output s told reasons = Text (ending_by told.stop) (reasons_text s reasons)

-- the output of a run that left no such tuple
abbrev pub absent_output : ResultTold → OutputView
absent_output told = Text (ending_by told.stop) absent_text

-- the fact, explained in the repository that the serial machine leaves
abbrev pub explained_of : ℕ → WrittenFact → SessionData → OutputView
explained_of steps fact s = reasons_output s (serial_told steps s) (reasons_for steps s (known_fact (fact_of s.relations fact)))

-- `explain`: the explanation, if the base meets the mappings
abbrev pub explained : ℕ → WrittenFact → SessionData → OutputView
explained steps fact s = unless_violated s (explained_of steps fact s) (base_violation s)
