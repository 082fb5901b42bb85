-- The text of a trace: a line that counts the entries, and a line for each entry, the compact JSON text of an object.
use Rattle.std.specs.Prelude.{ℕ, true, List, [], ◌∷◌, ◌++◌, map, flat_map, length, codes}
use Rattle.std.specs.Fmt.{decimal}
use Rattle.json.specs.Json.{Json, number, string, array, object, no_members, member}
use Rattle.json.specs.Print.{print}
use Rattle.json.specs.Tree.{json_tokens}
use Rattle.def_machine.specs.Machine.{Done, Spent, Refused}
use Rattle.def_machine.specs.Standings.{Standing, Ready, Held, Paused, Missing, Misfit, Ended, Withdrawn}
use Rattle.def_chase.specs.Repository.{Change, Insert, Delete}
use Rattle.def_chase.specs.Updates.{Choice}
use Rattle.def_history.specs.PlainEntries.{PlainCause, InConflict, Dependent, StepMade, DeliveryMade, AnswerMade, WithdrawalMade, PlainEntry, WasAdmitted, WasStepped, WasDelivered, WasAnswered, WasWithdrawn}
use Rattle.def_language.specs.Grammar.{choice_words}
use Rattle.def_language.specs.Layout.{laid_out}
use Rattle.def_language.specs.Printing.{tuple_text, written_choice}
use Rattle.def_language.specs.Sessions.{RelationSchema}
use Rattle.base_json.specs.Lines.{items_of}

-- The name of a standing.
abbrev pub standing_name : Standing → List ℕ
standing_name Ready = codes "ready"
standing_name (Held c) = codes "held"
standing_name (Paused Missing) = codes "pending"
standing_name (Paused Misfit) = codes "misfit"
standing_name (Ended Done) = codes "done"
standing_name (Ended Spent) = codes "spent"
standing_name (Ended Refused) = codes "refused"
standing_name Withdrawn = codes "withdrawn"

-- A number in decimal.
abbrev pub whole : ℕ → Json
whole n = number (decimal n)

-- The reader's read lost its value to the writer's writes. The members of each object stand in the order of their keys' bytes.
abbrev pub conflict_json : ℕ → ℕ → ℕ → Json
conflict_json reader read writer =
    object (member (codes "kind") (string (codes "conflict"))
    (member (codes "read") (whole read)
    (member (codes "reader") (whole reader)
    (member (codes "writer") (whole writer) no_members))))

-- The reader's read depends on an aborted update.
abbrev pub dependence_json : ℕ → ℕ → ℕ → Json
dependence_json reader read on =
    object (member (codes "kind") (string (codes "depends"))
    (member (codes "on") (whole on)
    (member (codes "read") (whole read)
    (member (codes "reader") (whole reader) no_members))))

abbrev pub cause_json : PlainCause → Json
cause_json (InConflict c) = conflict_json c.reader c.read c.writer
cause_json (Dependent c) = dependence_json c.reader c.read c.on

abbrev pub causes_json : List PlainCause → Json
causes_json causes = array (items_of (map cause_json causes))

-- +FACT for an insertion and -FACT for a deletion, nulls by their inner names ?u.k@a.
abbrev pub write_text : List RelationSchema → Change → List ℕ
write_text relations (Insert t) = 43 ∷ tuple_text relations true t
write_text relations (Delete t) = 45 ∷ tuple_text relations true t

abbrev pub write_json : List RelationSchema → Change → Json
write_json relations w = string (write_text relations w)

abbrev pub writes_json : List RelationSchema → List Change → Json
writes_json relations ws = array (items_of (map (write_json relations) ws))

-- An answer as a session has it after the label, nulls by their outer names.
abbrev pub choice_text : List RelationSchema → Choice → List ℕ
choice_text relations c = laid_out (choice_words (written_choice relations c))

-- An admission.
abbrev pub admitted_json : ℕ → Json
admitted_json u =
    object (member (codes "event") (string (codes "admitted"))
    (member (codes "update") (whole u) no_members))

-- A step. The members stand in the order of their keys' bytes.
abbrev pub stepped_json : List RelationSchema → StepMade → Json
stepped_json relations e =
    object (member (codes "attempt") (whole e.attempt)
    (member (codes "causes") (causes_json e.causes)
    (member (codes "committed") (whole e.committed)
    (member (codes "event") (string (codes "stepped"))
    (member (codes "status") (string (standing_name e.standing))
    (member (codes "update") (whole e.update)
    (member (codes "writes") (writes_json relations e.writes) no_members)))))))

abbrev pub delivered_json : DeliveryMade → Json
delivered_json e =
    object (member (codes "event") (string (codes "delivered"))
    (member (codes "status") (string (standing_name e.standing))
    (member (codes "update") (whole e.update) no_members)))

abbrev pub answered_json : List RelationSchema → AnswerMade → Json
answered_json relations e =
    object (member (codes "choice") (string (choice_text relations e.choice))
    (member (codes "event") (string (codes "answered"))
    (member (codes "status") (string (standing_name e.standing))
    (member (codes "update") (whole e.update) no_members))))

abbrev pub withdrawn_json : WithdrawalMade → Json
withdrawn_json e =
    object (member (codes "causes") (causes_json e.causes)
    (member (codes "committed") (whole e.committed)
    (member (codes "event") (string (codes "withdrawn"))
    (member (codes "update") (whole e.update) no_members))))

-- An entry.
abbrev pub entry_json : List RelationSchema → PlainEntry → Json
entry_json relations (WasAdmitted u) = admitted_json u
entry_json relations (WasStepped e) = stepped_json relations e
entry_json relations (WasDelivered e) = delivered_json e
entry_json relations (WasAnswered e) = answered_json relations e
entry_json relations (WasWithdrawn e) = withdrawn_json e

-- The line of an entry.
abbrev pub entry_line : List RelationSchema → PlainEntry → List ℕ
entry_line relations e = print (json_tokens (entry_json relations e)) ++ 10 ∷ []

-- trace N, and the lines of the N entries
abbrev pub trace_text : List RelationSchema → List PlainEntry → List ℕ
trace_text relations H = codes "trace " ++ (decimal (length H) ++ 10 ∷ flat_map (entry_line relations) H)
