-- Worked examples of traces.
use Rattle.std.specs.Prelude.{◌≡◌, ℕ, pos, List, [], ◌∷◌, ◌++◌, codes}
use Rattle.def_machine.specs.Machine.{Done}
use Rattle.def_machine.specs.Standings.{Standing, Ready, Paused, Missing, Ended}
use Rattle.def_chase.specs.Values.{Datum, Number, Text, Unknown, Fact}
use Rattle.def_chase.specs.Repository.{Change, Insert, Delete}
use Rattle.def_chase.specs.Queries.{Yes, No}
use Rattle.def_chase.specs.Updates.{Expand, Unify}
use Rattle.def_history.specs.PlainEntries.{PlainCause, InConflict, Dependent, PlainEntry, WasAdmitted, WasStepped, WasDelivered, WasAnswered, WasWithdrawn}
use Rattle.def_language.specs.Sessions.{RelationSchema}
use Rattle.audit_trace.specs.Traces.{entry_line, trace_text}

abbrev pub two_relations : List RelationSchema
two_relations = record { name = codes "A"; arity = 1 } ∷ record { name = codes "B"; arity = 1 } ∷ []

abbrev pub a_step : ℕ → ℕ → Standing → List Change → List PlainCause → ℕ → PlainEntry
a_step u a standing writes causes c = WasStepped (record { update = u; attempt = a; standing = standing; writes = writes; causes = causes; committed = c })

abbrev pub one_in : ℕ → Fact
one_in relation = record { relation = relation; values = Number (pos 1) ∷ [] }

-- A(x) -> B(x), and one update that inserts A(1): it is admitted, inserts, finds the violation, repairs it, and is done.
abbrev pub one_repair : List PlainEntry
one_repair =
    WasAdmitted 1
    ∷ a_step 1 0 Ready (Insert (one_in 0) ∷ []) [] 0
    ∷ a_step 1 0 Ready [] [] 0
    ∷ a_step 1 0 Ready (Insert (one_in 1) ∷ []) [] 0
    ∷ a_step 1 0 (Ended Done) [] [] 1
    ∷ []

abbrev pub a_line : List ℕ → List ℕ
a_line text = text ++ 10 ∷ []

-- a tuple with a null of an attempt and a text with quotes
abbrev pub a_null : Fact
a_null = record { relation = 1; values = Unknown (record { update = 2; attempt = 1; place = 3 }) ∷ Text (codes "say \"a\"") ∷ [] }

pub record TraceRows : Type 0 where
  pub repaired :
      trace_text two_relations one_repair
      ≡ a_line (codes "trace 5") ++ a_line (codes "{\"event\":\"admitted\",\"update\":1}")
      ++ a_line (codes "{\"attempt\":0,\"causes\":[],\"committed\":0,\"event\":\"stepped\",\"status\":\"ready\",\"update\":1,\"writes\":[\"+A(1)\"]}")
      ++ a_line (codes "{\"attempt\":0,\"causes\":[],\"committed\":0,\"event\":\"stepped\",\"status\":\"ready\",\"update\":1,\"writes\":[]}")
      ++ a_line (codes "{\"attempt\":0,\"causes\":[],\"committed\":0,\"event\":\"stepped\",\"status\":\"ready\",\"update\":1,\"writes\":[\"+B(1)\"]}")
      ++ a_line (codes "{\"attempt\":0,\"causes\":[],\"committed\":1,\"event\":\"stepped\",\"status\":\"done\",\"update\":1,\"writes\":[]}")
  pub restarts :
      entry_line two_relations (a_step 1 0 Ready (Insert (one_in 0) ∷ []) (InConflict (record { reader = 2; read = 1; writer = 1; old = No; new = Yes }) ∷ Dependent (record { reader = 3; read = 4; on = 2 }) ∷ []) 0)
      ≡ a_line (codes "{\"attempt\":0,\"causes\":[{\"kind\":\"conflict\",\"read\":1,\"reader\":2,\"writer\":1},{\"kind\":\"depends\",\"on\":2,\"read\":4,\"reader\":3}],\"committed\":0,\"event\":\"stepped\",\"status\":\"ready\",\"update\":1,\"writes\":[\"+A(1)\"]}")
  pub inner :
      entry_line two_relations (a_step 2 1 Ready (Delete a_null ∷ []) [] 1)
      ≡ a_line (codes "{\"attempt\":1,\"causes\":[],\"committed\":1,\"event\":\"stepped\",\"status\":\"ready\",\"update\":2,\"writes\":[\"-B(?2.3@1, \\\"say \\\\\\\"a\\\\\\\"\\\")\"]}")
  pub delivered : entry_line two_relations (WasDelivered (record { update = 1; standing = Ready })) ≡ a_line (codes "{\"event\":\"delivered\",\"status\":\"ready\",\"update\":1}")
  pub answered :
      entry_line two_relations (WasAnswered (record { update = 3; choice = Unify (one_in 1); standing = Paused Missing }))
      ≡ a_line (codes "{\"choice\":\"unify B(1)\",\"event\":\"answered\",\"status\":\"pending\",\"update\":3}")
  pub withdrawn :
      entry_line two_relations (WasWithdrawn (record { update = 2; causes = Dependent (record { reader = 3; read = 1; on = 2 }) ∷ []; committed = 1 }))
      ≡ a_line (codes "{\"causes\":[{\"kind\":\"depends\",\"on\":2,\"read\":1,\"reader\":3}],\"committed\":1,\"event\":\"withdrawn\",\"update\":2}")
