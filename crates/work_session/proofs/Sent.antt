-- A core may go to other threads.
use denote.Param.Send.{IsSend, IsSync, sendable, view_sync}
use denote.Ref.{NamedLft}
use Rattle.std.proofs.Crossing.{crosses}
use Rattle.set_facts.proofs.Crossing.{IndexMap-sync}
use Rattle.set_versions.proofs.Sent.{versions_send}
use Rattle.base_types.proofs.Sent.{tuple_send, tuple_sync}
use Rattle.chase_update.proofs.Sent.{attempt_send}
use Rattle.chase_query.specs.contracts.log.Logged as log_entries
use Rattle.core_queue.specs.contracts.updates.QueuedUpdate as queued
use Rattle.core_entries.specs.contracts.entries.Entry as entries
use Rattle.core_engine.specs.contracts.cores.Core as core
use Rattle.chase_plan.specs.contracts.touched.TouchedMappings as touched_mappings
use Rattle.base_types.specs.contracts.updates.Update as updates
use Rattle.base_types.specs.contracts.updates.Choice as choices
use Rattle.lang_schema.specs.contracts.schema.Schema as schema
use Rattle.lang_schema.specs.contracts.schema.Schema.TheInside as schema_inside
use Rattle.lang_session.specs.contracts.sessions.SessionUpdate as session_updates
use Rattle.work_session.specs.contracts.seated.Seated as seated

log_entry_send : IsSend log_entries.the_row
log_entry_send = search (sendable, crosses, tuple_send) depth 60 fits 6000

queued_send : IsSend queued.the_row
queued_send = search (sendable, crosses, log_entry_send, attempt_send) depth 60 fits 6000

entry_send : IsSend entries.the_row
entry_send = search (sendable, crosses, tuple_send) depth 60 fits 6000

-- A core lends the relations, the base and the updates of its session, so other threads see them.
schema_inside_sync : IsSync schema_inside.the_row
schema_inside_sync = search (sendable, crosses, IndexMap-sync) depth 60 fits 6000

schema_sync : IsSync schema.the_row
schema_sync = view_sync _ _ _ _ _ schema_inside_sync

choice_sync : IsSync choices.the_row
choice_sync = search (sendable, crosses, tuple_sync) depth 60 fits 6000

session_update_sync : IsSync session_updates.the_row
session_update_sync = search (sendable, crosses, choice_sync) depth 60 fits 6000

update_send : IsSend updates.the_row
update_send = search (sendable, crosses) depth 60 fits 6000

touched_mappings_send : (κ : NamedLft) → IsSend (touched_mappings.the_row κ)
touched_mappings_send κ = search (sendable, crosses) depth 60 fits 6000

core_send : (κ : NamedLft) → IsSend (core.the_row κ)
core_send κ = search (sendable, crosses, versions_send, queued_send, entry_send, update_send, session_update_sync, schema_sync, tuple_sync, touched_mappings_send) depth 60 fits 6000

pub seated_send : (κ : NamedLft) → IsSend (seated.the_row κ)
seated_send κ = search (sendable, crosses, core_send) depth 60 fits 6000
