-- Additions to a session, as the session then has them.
use Rattle.std.specs.Prelude.{[], ◌∷◌, ◌++◌, Option, Some, None}
use Rattle.base_types.specs.declared.updates.Update.{Update}
use Rattle.base_types.specs.declared.mappings.Mapping.{Mapping}
use Rattle.base_types.specs.Meanings.{operation_of}
use Rattle.def_language.specs.Sessions.{SessionData, SessionMapping, SessionUpdate}
use Rattle.lang_schema.specs.Meanings.{session_mapping_of}

-- an update without answers
abbrev pub unanswered : Update → SessionUpdate
unanswered u = record { label = u.label.items; curator = u.curator.items; operation = operation_of u.operation; answers = [] }

-- the session with one more mapping
abbrev pub with_mapping : SessionData → SessionMapping → SessionData
with_mapping s m = record s { mappings = s.mappings ++ m ∷ [] }

-- the session with the mapping that an update adds, if it adds one
abbrev pub with_added : SessionData → Option Mapping → SessionData
with_added s None = s
with_added s (Some m) = with_mapping s (session_mapping_of m)

-- the session with one more update
abbrev pub with_update : SessionData → SessionUpdate → SessionData
with_update s u = record s { updates = s.updates ++ u ∷ [] }
