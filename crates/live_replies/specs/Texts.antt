-- The texts of replies.
use Rattle.std.specs.Prelude.{ℕ, ◌-◌, List, [], ◌∷◌, ◌++◌, length, codes, Option, Some, None, slice_get}
use Rattle.chase_question.specs.Inquiries.{Inquiry}
use Rattle.def_language.specs.Sessions.{RelationSchema, SessionData}
use Rattle.def_history.specs.PlainEntries.{PlainEntry}
use Rattle.def_machine.specs.Standings.{Standing}
use Rattle.lang_report.specs.Results.{lines_text, question_lines}
use Rattle.audit_trace.specs.Traces.{entry_line, standing_name}

-- why a command makes no event: its line is no command; its label is unknown, or already used; a fact fits no relation; the
-- session has the most updates that it may have; a null is not of a lower update; the update is committed, or its standing does
-- not allow the command; the choice does not answer the question
pub data Why : Type 0 where
  BadLine : Why
  BadLabel : Why
  BadFact : Why
  Full : Why
  BadNull : Why
  IsCommitted : Why
  Stands : Standing → Why
  Misfits : Why

abbrev pub word_of : Why → List ℕ
word_of BadLine = codes "line"
word_of BadLabel = codes "label"
word_of BadFact = codes "fact"
word_of Full = codes "full"
word_of BadNull = codes "null"
word_of IsCommitted = codes "committed"
word_of (Stands s) = standing_name s
word_of Misfits = codes "misfit"

-- refused WORD
abbrev pub refused_line : Why → List ℕ
refused_line why = codes "refused " ++ (word_of why ++ 10 ∷ [])

-- the line of an entry, if there is one
abbrev pub entry_text : List RelationSchema → Option PlainEntry → List ℕ
entry_text relations None = []
entry_text relations (Some e) = entry_line relations e

-- the line of the last entry
abbrev pub last_line : List RelationSchema → List PlainEntry → List ℕ
last_line relations H = entry_text relations (slice_get H (length H - 1))

-- the lines of a question, or `none`
abbrev pub question_text : SessionData → Option Inquiry → List ℕ
question_text s None = codes "none\n"
question_text s (Some q) = lines_text (question_lines s q)
