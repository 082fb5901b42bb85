-- What the line of a command says.
use Rattle.std.specs.Prelude.{ℕ, List, [], ◌∷◌, codes, Option, Some, None, Result, Ok, Err, if◌then◌else◌}
use Rattle.lang_session.specs.Admissible.{is_text}
use Rattle.def_language.specs.declared.tokens.LexRefusal.{LexRefusal}
use Rattle.def_language.specs.Faults.{Kind}
use Rattle.def_language.specs.Forms.{Updates, statement_at}
use Rattle.def_language.specs.Names.{Name, same_name}
use Rattle.def_language.specs.Parts.{name_at}
use Rattle.def_language.specs.Statements.{WrittenOperation, WrittenChoice, Statement, Update, Answer}
use Rattle.def_language.specs.Words.{Word, name, words_at}

-- What a curator asks for: to admit an update with its label, curator and operation; a step of the lowest update that is ready; a
-- delivery to the lowest update that a recorded answer waits for; to answer the question of the update with the label; to
-- withdraw that update; to show its question; to end.
pub data Asked : Type 0 where
  AskUpdate : Name → Name → WrittenOperation → Asked
  AskStep : Asked
  AskDelivery : Asked
  AskAnswer : Name → WrittenChoice → Asked
  AskWithdrawal : Name → Asked
  AskQuestion : Name → Asked
  AskEnd : Asked

-- A line is blank, or is no command, or asks for something.
pub data Saying : Type 0 where
  Nothing : Saying
  NoForm : Saying
  Asks : Asked → Saying

-- WORD
abbrev pub alone : List Word → Asked → Saying
alone [] a = Asks a
alone (w ∷ ws) a = NoForm

-- WORD LABEL
abbrev pub labelled : Result (Name × List Word) Kind → (Name → Asked) → Saying
labelled (Ok x) ask = alone x.1 (ask x.0)
labelled (Err kind) ask = NoForm

-- an update or an answer, as a statement of a session
abbrev pub stated : Result Statement Kind → Saying
stated (Ok (Update label curator op)) = Asks (AskUpdate label curator op)
stated (Ok (Answer label choice)) = Asks (AskAnswer label choice)
stated _ = NoForm

-- What the name n and the words after it say: step | deliver | quit | withdraw LABEL | question LABEL | update LABEL CURATOR .. |
-- answer LABEL .., the last two as in a session of format 1.
abbrev pub command_at : Name → List Word → Saying
command_at n rest =
    if same_name n (codes "step") then alone rest AskStep
    else if same_name n (codes "deliver") then alone rest AskDelivery
    else if same_name n (codes "quit") then alone rest AskEnd
    else if same_name n (codes "withdraw") then labelled (name_at rest) AskWithdrawal
    else if same_name n (codes "question") then labelled (name_at rest) AskQuestion
    else stated (statement_at Updates 1 (name n ∷ rest))

-- what words say
abbrev pub words_say : List Word → Saying
words_say [] = Nothing
words_say (name n ∷ rest) = command_at n rest
words_say _ = NoForm

-- what tokens say; a line with a lexical fault is no command
abbrev pub tokens_say : Result (List Word) LexRefusal → Saying
tokens_say (Ok words) = words_say words
tokens_say (Err refusal) = NoForm

-- What a line says. A line that is not UTF-8 is no command.
abbrev pub line_says : List ℕ → Saying
line_says line = if is_text line then tokens_say (words_at line) else NoForm
