-- Tuples may go to other threads, and be seen there.
use denote.Param.Send.{IsSend, IsSync, sendable, view_send, view_sync}
use Rattle.std.proofs.Crossing.{crosses}
use Rattle.base_types.specs.contracts.rows.Row as rows
use Rattle.base_types.specs.contracts.rows.Row.TheInside as inside
use Rattle.base_types.specs.contracts.tuples.Tuple as tuples

inside_send : IsSend inside.the_row
inside_send = search (sendable, crosses) depth 40 fits 4000

inside_sync : IsSync inside.the_row
inside_sync = search (sendable, crosses) depth 40 fits 4000

row_send : IsSend rows.the_row
row_send = view_send _ _ _ _ _ inside_send

row_sync : IsSync rows.the_row
row_sync = view_sync _ _ _ _ _ inside_sync

pub tuple_send : IsSend tuples.the_row
tuple_send = search (sendable, crosses, row_send) depth 40 fits 4000

pub tuple_sync : IsSync tuples.the_row
tuple_sync = search (sendable, crosses, row_sync) depth 40 fits 4000
