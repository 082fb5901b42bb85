-- An attempt may go to other threads.
use denote.Param.Send.{IsSend, sendable, view_send}
use denote.Param.SendFields.{declared_send}
use Rattle.std.proofs.Crossing.{crosses}
use Rattle.base_types.proofs.Sent.{tuple_send}
use Rattle.base_types.specs.contracts.updates.Operation as operations
use Rattle.chase_repair.proofs.Sent.{repair_send}
use Rattle.chase_update.specs.contracts.own.Own as own
use Rattle.chase_update.specs.contracts.own.Own.TheInside as own_inside
use Rattle.chase_update.specs.contracts.points.Point as points
use Rattle.chase_update.specs.contracts.attempts.Parts as parts
use Rattle.chase_update.specs.contracts.attempts.Attempt as attempts
use Rattle.chase_update.specs.contracts.shared.SharedWrites as shared
use Rattle.chase_update.specs.contracts.shared.SharedWrites.TheInside as shared_inside
use Rattle.chase_update.specs.contracts.attempts.Attempt.TheInside as inside

operation_send : IsSend operations.the_row
operation_send = search (sendable, crosses) depth 60 fits 6000

point_send : IsSend points.the_row
point_send = search (sendable, crosses, tuple_send, repair_send) depth 60 fits 6000

-- The writes, which copies of an attempt share.
shared_inside_send : IsSend shared_inside.the_row
shared_inside_send = search (sendable, crosses) depth 60 fits 6000

shared_send : IsSend shared.the_row
shared_send = view_send _ _ _ _ _ shared_inside_send

own_inside_send : IsSend own_inside.the_row
own_inside_send = search (sendable, crosses, shared_send) depth 60 fits 6000

own_send : IsSend own.the_row
own_send = view_send _ _ _ _ _ own_inside_send

-- The parts by their fields: their number is above what the search takes at once.
parts_send : IsSend parts.the_row
parts_send = search (sendable, crosses, operation_send, point_send, own_send, declared_send) depth 60 fits 6000

inside_send : IsSend inside.the_row
inside_send = search (sendable, crosses, parts_send) depth 60 fits 6000

pub attempt_send : IsSend attempts.the_row
attempt_send = view_send _ _ _ _ _ inside_send
