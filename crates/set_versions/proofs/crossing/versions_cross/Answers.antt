use denote.Param.Send.{sendable}
use Rattle.set_versions.proofs.Sent.{versions_send, versions_sync}
use Rattle.set_versions.proofs.crossing.versions_cross.Goals as goal

pub is_send-requires-send-T : goal.is_send-requires-send-T
is_send-requires-send-T c κs = search (sendable, versions_send)

pub is_sync-requires-sync-T : goal.is_sync-requires-sync-T
is_sync-requires-sync-T c κs = search (sendable, versions_sync)
