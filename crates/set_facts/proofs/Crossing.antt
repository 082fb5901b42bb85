-- An index map may go to other threads, and be seen there, if its keys and values may.
use denote.RattleType.{RattleType}
use denote.Param.Send.{IsSend, IsSync, sendable}
use Rattle.std.proofs.Crossing.{crosses}
use Rattle.std.proofs.Crossing as owned
use Rattle.std.specs.contracts.alloc.Global as Heap
use Rattle.std.specs.contracts.impls.GlobalAllocator.TheImpl.{ghosts}
use Rattle.std.specs.declared.cmp.PartialEq as eq
use Rattle.std.specs.declared.hash.BuildHasher as builder
use Rattle.std.specs.declared.hash.Hash as hash
use Rattle.std.specs.declared.hash.Hasher as hasher
use Rattle.indexmap.specs.contracts.columns.Columns as Columns
use Rattle.indexmap.specs.contracts.index_table.IndexTable as IndexTable
use Rattle.indexmap.specs.contracts.map.IndexMap as IndexMap

module _ (K V : RattleType) where
  columns_send : IsSend K → IsSend V → IsSend (Columns.the_field K V Heap.the_row ghosts).row
  columns_send sk sv = let a = owned.Vec-send K sk in let b = owned.Vec-send V sv in search sendable depth 20

  columns_sync : IsSync K → IsSync V → IsSync (Columns.the_field K V Heap.the_row ghosts).row
  columns_sync yk yv = let a = owned.Vec-sync K yk in let b = owned.Vec-sync V yv in search sendable depth 20

table_send : IsSend (IndexTable.the_field Heap.the_row ghosts).row
table_send = search (sendable, crosses) depth 40 fits 4000

table_sync : IsSync (IndexTable.the_field Heap.the_row ghosts).row
table_sync = search (sendable, crosses) depth 40 fits 4000

module _ (K V S T : RattleType) (e : eq.Ghosts K.Denot) (h : hash.Ghosts K.Denot) (b : builder.Ghosts S.Denot T.Denot) (w : hasher.Ghosts T.Denot) where
  pub IndexMap-send : IsSend K → IsSend V → IsSend S → IsSend (IndexMap.the_field K V S Heap.the_row T e h b w ghosts).row
  IndexMap-send sk sv ss = let a = columns_send K V sk sv in let t = table_send in search sendable depth 20

  pub IndexMap-sync : IsSync K → IsSync V → IsSync S → IsSync (IndexMap.the_field K V S Heap.the_row T e h b w ghosts).row
  IndexMap-sync yk yv ys = let a = columns_sync K V yk yv in let t = table_sync in search sendable depth 20
