-- The meaning of a session of the program, in the terms of the language of sessions and of the chase.
use Rattle.std.specs.Prelude.{List, map}
use Rattle.base_types.specs.Meanings.{fact_of, operation_of, choice_of}
use Rattle.def_steps.specs.Serial.{Request}
use Rattle.lang_schema.specs.Meanings.{session_mapping_of}
use Rattle.def_language.specs.Sessions.{SessionData}
use Rattle.def_language.specs.Sessions as meant
use Rattle.lang_session.specs.declared.sessions.SessionUpdate.{SessionUpdate}
use Rattle.lang_session.specs.declared.sessions.Session.{Session}

-- the update that a `SessionUpdate` stands for
abbrev pub update_of : SessionUpdate → meant.SessionUpdate
update_of u =
    record {
      label = u.update.label.items;
      curator = u.update.curator.items;
      operation = operation_of u.update.operation;
      answers = map choice_of u.answers.items;
    }

-- the session that a `Session` stands for
abbrev pub session_of : Session → SessionData
session_of s =
    record {
      format = s.format;
      relations = s.schema;
      mappings = map session_mapping_of s.mappings.items;
      base = map fact_of s.base.items;
      updates = map update_of s.updates.items;
    }

-- an update as the chase sees it: its operation and its answers
abbrev pub request_of : meant.SessionUpdate → Request
request_of u = record { operation = u.operation; answers = u.answers }

-- the updates of a session as the chase sees them
abbrev pub requests_in : SessionData → List Request
requests_in s = map request_of s.updates
