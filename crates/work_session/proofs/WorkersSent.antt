-- A desk may be seen by other threads, where its core may go to them.
use denote.RattleType.{RattleType}
use denote.Param.Send.{IsSend, IsSync, sendable}
use Rattle.std.proofs.Crossing.{crosses}
use Rattle.atomic_table.proofs.shared.Shared.TheSendSync as shared
use Rattle.atomic_table.proofs.send_lease.SendLease.TheSendSync as lease
use Rattle.work_desk.specs.declared.cores.Core.{Ghosts}
use Rattle.work_desk.specs.contracts.board.Board as board
use Rattle.work_desk.specs.contracts.desk.Desk as desk

module _ (C S P : RattleType) (g : Ghosts C.Denot S.Denot P.Denot) (s : IsSend C) where
  board_send : IsSend (board.the_row C S P g)
  board_send = search (sendable, crosses) depth 30 fits 3000

  pub desk_sync : IsSync (desk.the_row C S P g)
  desk_sync = search (sendable, crosses, shared.the_sync, lease.the_sync, board_send) depth 40 fits 4000
