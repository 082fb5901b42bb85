-- What the command `ask` makes of a session.
use Rattle.std.specs.Prelude.{ℕ, List, [], ◌∷◌, ◌++◌, Result, Ok, Err, codes}
use Rattle.run_ask.specs.Bound.{bound_ask}
use Rattle.run_ask.specs.Printed.{answers_text}
use Rattle.run_ask.specs.Written.{WrittenAsk}
use Rattle.run_ask.specs.Certain.{ConjunctiveQuery}
use Rattle.run_ask.specs.Naive.{certain_answers}
use Rattle.cmd_frame.specs.Outputs.{OutputView, Text, Refused}
use Rattle.cmd_frame.specs.declared.outputs.Refusal.TheVariants.{QueryRefused}
use Rattle.def_language.specs.Faults.{Kind, kind_text}
use Rattle.def_language.specs.Sessions.{SessionData}
use Rattle.chase_update.specs.Results.{ResultTold}
use Rattle.lang_report.specs.Results.{serial_told}
use Rattle.lang_session.specs.Base.{base_violation}
use Rattle.cmd_plain.specs.Commands.{unless_violated}
use Rattle.cmd_plain.specs.Runs.{ending_by}

-- the line that says why a query does not fit the relations
abbrev pub query_line : Kind → List ℕ
query_line kind = codes "youtopia: query: " ++ (kind_text kind ++ 10 ∷ [])

-- the output of a run: the certain answers over the repository that it left
abbrev pub answers_output : ResultTold → ConjunctiveQuery → OutputView
answers_output told q = Text (ending_by told.stop) (answers_text (certain_answers q told.repository))

-- the certain answers, or the refusal if the query does not fit the relations
abbrev pub asked_over : ResultTold → Result ConjunctiveQuery Kind → OutputView
asked_over told (Ok q) = answers_output told q
asked_over told (Err kind) = Refused QueryRefused (query_line kind)

-- the query asked over the repository that the serial machine leaves, with `steps` steps for each update
abbrev pub asked_of : ℕ → WrittenAsk → SessionData → OutputView
asked_of steps q s = asked_over (serial_told steps s) (bound_ask s.relations q)

-- `ask`: the answers, if the base meets the mappings
abbrev pub asked : ℕ → WrittenAsk → SessionData → OutputView
asked steps q s = unless_violated s (asked_of steps q s) (base_violation s)
