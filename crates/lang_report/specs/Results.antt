-- The result text: the result of a run for people, line by line.
use Rattle.std.specs.Prelude.{ℕ, pos, ◌+◌, ◌-◌, List, [], ◌∷◌, ◌++◌, Option, Some, None, Result, Ok, Err, length, map, flat_map, codes, slice_index_or}
use Rattle.def_machine.specs.Standings.{Lack, Missing, Misfit}
use Rattle.def_chase.specs.Values.{Fact}
use Rattle.def_chase.specs.Updates.{Enacts}
use Rattle.def_steps.specs.Serial.{serial_result}
use Rattle.chase_question.specs.Inquiries.{Inquiry, PositiveInquiry, NegativeInquiry}
use Rattle.chase_update.specs.Wishes.{End, IsDone, IsSpent, IsRefused}
use Rattle.chase_update.specs.Results.{FinishTold, StopTold, ResultTold, result_in}
use Rattle.def_language.specs.Words.{Word, name, number, null}
use Rattle.def_language.specs.Layout.{laid_out}
use Rattle.def_language.specs.Grammar.{fact_words}
use Rattle.def_language.specs.Names.{Name}
use Rattle.def_language.specs.Checks.{rules_of}
use Rattle.def_language.specs.Faults.{Wrong}
use Rattle.def_language.specs.Printing.{name_of, written_fact}
use Rattle.def_language.specs.Sessions.{RelationSchema, SessionUpdate, SessionData, mapping_names}
use Rattle.lang_session.specs.Meanings.{requests_in}

-- the update that stands for a number that no update has
abbrev pub no_update : SessionUpdate
no_update = record { label = []; curator = []; operation = Enacts 0; answers = [] }

-- an update by its number, label and curator: N LABEL CURATOR
abbrev pub update_words : List SessionUpdate → ℕ → List Word
update_words updates n =
    let u = slice_index_or updates (n - 1) no_update in
    number (pos n) ∷ name u.label ∷ name u.curator ∷ []

-- how an update ended; if it was refused, with the null that is nowhere
abbrev pub end_words : End → List Word
end_words IsDone = name (codes "done") ∷ []
end_words IsSpent = name (codes "spent") ∷ []
end_words (IsRefused u k) = name (codes "refused") ∷ null u k ∷ []

-- update N LABEL CURATOR OUTCOME steps S nulls P
abbrev pub finish_words : List SessionUpdate → ℕ → FinishTold → List Word
finish_words updates n f =
    name (codes "update") ∷ (update_words updates n
    ++ (end_words f.outcome ++ name (codes "steps") ∷ number (pos f.steps) ∷ name (codes "nulls") ∷ number (pos f.nulls) ∷ []))

-- the updates that have ended, numbered from n on
abbrev pub finish_lines : List SessionUpdate → ℕ → List FinishTold → List (List Word)
finish_lines updates n [] = []
finish_lines updates n (f ∷ fs) = finish_words updates n f ∷ finish_lines updates (n + 1) fs

-- a tuple, as a session spells it
abbrev pub tuple_words : List RelationSchema → Fact → List Word
tuple_words relations t = fact_words (written_fact relations t)

-- candidate FACT
abbrev pub candidate_lines : List RelationSchema → List Fact → List (List Word)
candidate_lines relations facts = map (λ t. name (codes "candidate") ∷ tuple_words relations t) facts

-- question positive MAPPING FACT with the generated tuple, and the candidates
abbrev pub positive_lines : List RelationSchema → Name → Fact → List Fact → List (List Word)
positive_lines relations called t candidates =
    (name (codes "question") ∷ name (codes "positive") ∷ name called ∷ tuple_words relations t) ∷ candidate_lines relations candidates

-- question negative MAPPING, and the tuples of which some must be deleted
abbrev pub negative_lines : List RelationSchema → Name → List Fact → List (List Word)
negative_lines relations called facts =
    (name (codes "question") ∷ name (codes "negative") ∷ name called ∷ []) ∷ candidate_lines relations facts

-- A question, with the name of its mapping.
abbrev pub question_lines : SessionData → Inquiry → List (List Word)
question_lines s (PositiveInquiry m t candidates) = positive_lines s.relations (name_of (mapping_names s.mappings) m) t candidates
question_lines s (NegativeInquiry m facts) = negative_lines s.relations (name_of (mapping_names s.mappings) m) facts

-- why the run stopped: the answer is missing, or does not fit
abbrev pub lack_name : Lack → Name
lack_name Missing = codes "missing"
lack_name Misfit = codes "misfit"

-- stuck N LABEL CURATOR LACK, and the question
abbrev pub stop_lines : SessionData → StopTold → List (List Word)
stop_lines s stop = (name (codes "stuck") ∷ (update_words s.updates stop.number ++ name (lack_name stop.lack) ∷ [])) ∷ question_lines s stop.question

-- the stop, if the run stopped
abbrev pub stop_lines_in : SessionData → Option StopTold → List (List Word)
stop_lines_in s None = []
stop_lines_in s (Some stop) = stop_lines s stop

-- repository T, and the T tuples
abbrev pub repository_lines : List RelationSchema → List Fact → List (List Word)
repository_lines relations facts = (name (codes "repository") ∷ number (pos (length facts)) ∷ []) ∷ map (tuple_words relations) facts

-- committed C of U: C of the U updates have ended
abbrev pub committed_words : List FinishTold → List SessionUpdate → List Word
committed_words finishes updates = name (codes "committed") ∷ number (pos (length finishes)) ∷ name (codes "of") ∷ number (pos (length updates)) ∷ []

-- youtopia result 1
abbrev pub title_words : List Word
title_words = name (codes "youtopia") ∷ name (codes "result") ∷ number (pos 1) ∷ []

-- the lines of the result text, from `youtopia result 1` on
abbrev pub result_lines : SessionData → ResultTold → List (List Word)
result_lines s r =
    title_words
    ∷ (finish_lines s.updates 1 r.finishes
    ++ (stop_lines_in s r.stop ++ (repository_lines s.relations r.repository ++ committed_words r.finishes s.updates ∷ [])))

-- lines of words, laid out as those of a session, each with its line feed
abbrev pub lines_text : List (List Word) → List ℕ
lines_text lines = flat_map (λ words. laid_out words ++ 10 ∷ []) lines

-- The result text of a session and the result of its run.
abbrev pub result_text : SessionData → ResultTold → List ℕ
result_text s r = lines_text (result_lines s r)

-- the result of the serial machine on a session, with a budget of steps for each update
abbrev pub serial_told : ℕ → SessionData → ResultTold
serial_told budget s = result_in (serial_result (rules_of s.mappings) budget s.base (requests_in s))

-- the result text of the serial machine on the session that was read; empty if none was
abbrev pub serial_text : ℕ → Result SessionData Wrong → List ℕ
serial_text budget (Ok s) = result_text s (serial_told budget s)
serial_text budget (Err wrong) = []
