-- Versions may go to other threads, and be seen there.
use denote.RattleType.{RattleType}
use denote.Param.Send.{IsSend, IsSync, sendable, view_send, view_sync}
use Rattle.std.proofs.Crossing.{crosses, frees}
use Rattle.std.proofs.Crossing as heap
use Rattle.std.proofs.MapsCrossingOver.{BTreeSet-send, BTreeSet-sync}
use Rattle.base_types.specs.contracts.values.Value as values
use Rattle.base_tree.proofs.branch.Branch.TheLaws.TheKnot as tree
use Rattle.base_types.proofs.Sent.{tuple_send, tuple_sync}
use Rattle.set_versions.specs.contracts.handles.Handle as handles
use Rattle.set_versions.specs.contracts.handles.Handle.TheInside as inside
use Rattle.set_versions.specs.contracts.marks.Marks as marks
use Rattle.set_versions.specs.contracts.cells.Cell as cells
use Rattle.set_versions.specs.contracts.spreads.Shelf as shelf
use Rattle.set_versions.specs.contracts.spreads.Room as room
use Rattle.set_versions.specs.contracts.spreads.Quarters as quarters
use Rattle.set_versions.specs.contracts.spreads.Quarters.TheInside as quarters_inside
use Rattle.set_versions.specs.contracts.spreads.Shelves as shelves
use Rattle.set_versions.specs.contracts.tables.Table as tables
use Rattle.set_versions.specs.contracts.taken.Taken as taken
use Rattle.set_versions.specs.contracts.versions.Versions as versions
use Rattle.set_facts.proofs.Crossing.{IndexMap-send, IndexMap-sync}
use Rattle.set_facts.specs.contracts.plain.PlainFacts as plain
use Rattle.set_facts.specs.contracts.plain.PlainFacts.TheInside as plain_inside
use Rattle.set_facts.specs.contracts.listed.ListedFacts as listed
use Rattle.set_facts.specs.contracts.listed.ListedFacts.TheInside as listed_inside
use Rattle.set_facts.specs.contracts.listed.Held as held
use Rattle.set_facts.specs.contracts.group.Group as group
use Rattle.set_facts.specs.contracts.group.Group.TheInside as group_inside
use Rattle.set_facts.specs.contracts.indexed.IndexedFacts as base
use Rattle.set_facts.specs.contracts.indexed.IndexedFacts.TheInside as base_inside

marks_send : IsSend marks.the_row
marks_send = search (sendable, crosses, tree.crosses) depth 40 fits 4000

marks_sync : IsSync marks.the_row
marks_sync = search (sendable, crosses, tree.crosses) depth 40 fits 4000

inside_send : IsSend inside.the_row
inside_send = search (sendable, crosses, tuple_send) depth 40 fits 4000

inside_sync : IsSync inside.the_row
inside_sync = search (sendable, crosses, tuple_sync) depth 40 fits 4000

handle_send : IsSend handles.the_row
handle_send = view_send _ _ _ _ _ inside_send

handle_sync : IsSync handles.the_row
handle_sync = view_sync _ _ _ _ _ inside_sync

cell_send : IsSend cells.the_row
cell_send = search (sendable, crosses, handle_send) depth 40

cell_sync : IsSync cells.the_row
cell_sync = search (sendable, crosses, handle_sync) depth 40

module _ (T : RattleType) (ts : IsSend T) (ty : IsSync T) where
  room_send : IsSend (room.the_row T)
  room_send = search (sendable, ts.owned) depth 40 fits 4000

  room_sync : IsSync (room.the_row T)
  room_sync = search (sendable, ty.shared) depth 40 fits 4000

  quarters_inside_send : IsSend (quarters_inside.the_row T)
  quarters_inside_send = search (sendable, crosses, room_send, room_sync) depth 40 fits 4000

  quarters_inside_sync : IsSync (quarters_inside.the_row T)
  quarters_inside_sync = search (sendable, crosses, room_send, room_sync) depth 40 fits 4000

  quarters_send : IsSend (quarters.the_row T)
  quarters_send = view_send _ _ _ _ _ quarters_inside_send

  quarters_sync : IsSync (quarters.the_row T)
  quarters_sync = view_sync _ _ _ _ _ quarters_inside_sync

shelf_send : IsSend shelf.the_row
shelf_send = search (sendable, crosses, tree.crosses, marks_send, marks_sync, cell_send, cell_sync) depth 40 fits 4000

shelf_sync : IsSync shelf.the_row
shelf_sync = search (sendable, crosses, tree.crosses, marks_send, marks_sync, cell_send, cell_sync) depth 40 fits 4000

shelves_send : IsSend shelves.the_row
shelves_send = search (sendable, quarters_send, quarters_sync, shelf_send, shelf_sync) depth 40 fits 4000

shelves_sync : IsSync shelves.the_row
shelves_sync = search (sendable, quarters_send, quarters_sync, shelf_send, shelf_sync) depth 40 fits 4000

table_send : IsSend tables.the_row
table_send = search (sendable, crosses, tree.crosses, marks_send, marks_sync, handle_send, handle_sync, quarters_send, quarters_sync, shelves_send, shelves_sync) depth 40 fits 4000

table_sync : IsSync tables.the_row
table_sync = search (sendable, crosses, tree.crosses, marks_send, marks_sync, handle_send, handle_sync, quarters_send, quarters_sync, shelves_send, shelves_sync) depth 40 fits 4000

-- ---- the base

plain_inside_send : IsSend plain_inside.the_row
plain_inside_send = search (sendable, crosses, BTreeSet-send, frees, heap.send, tuple_send) depth 40 fits 4000

plain_inside_sync : IsSync plain_inside.the_row
plain_inside_sync = search (sendable, crosses, BTreeSet-sync, heap.sync, tuple_sync) depth 40 fits 4000

plain_send : IsSend plain.the_row
plain_send = view_send _ _ _ _ _ plain_inside_send

plain_sync : IsSync plain.the_row
plain_sync = view_sync _ _ _ _ _ plain_inside_sync

listed_inside_send : IsSend listed_inside.the_row
listed_inside_send = search (sendable, crosses, tuple_send) depth 40 fits 4000

listed_inside_sync : IsSync listed_inside.the_row
listed_inside_sync = search (sendable, crosses, tuple_sync) depth 40 fits 4000

listed_send : IsSend listed.the_row
listed_send = view_send _ _ _ _ _ listed_inside_send

listed_sync : IsSync listed.the_row
listed_sync = view_sync _ _ _ _ _ listed_inside_sync

held_send : IsSend held.the_row
held_send = search (sendable, crosses, plain_send, listed_send) depth 40 fits 4000

held_sync : IsSync held.the_row
held_sync = search (sendable, crosses, plain_sync, listed_sync) depth 40 fits 4000

group_inside_send : IsSend group_inside.the_row
group_inside_send = search (sendable, crosses, heap.send, plain_send, listed_send) depth 40 fits 4000

group_inside_sync : IsSync group_inside.the_row
group_inside_sync = search (sendable, crosses, heap.sync, plain_sync, listed_sync) depth 40 fits 4000

group_send : IsSend group.the_row
group_send = view_send _ _ _ _ _ group_inside_send

group_sync : IsSync group.the_row
group_sync = view_sync _ _ _ _ _ group_inside_sync

value_send : IsSend values.the_row
value_send = search (sendable, crosses) depth 40 fits 4000

value_sync : IsSync values.the_row
value_sync = search (sendable, crosses) depth 40 fits 4000

base_inside_send : IsSend base_inside.the_row
base_inside_send = search (sendable, crosses, IndexMap-send, heap.send, value_send, plain_send, group_send) depth 40 fits 4000

base_inside_sync : IsSync base_inside.the_row
base_inside_sync = search (sendable, crosses, IndexMap-sync, heap.sync, value_sync, plain_sync, group_sync) depth 40 fits 4000

base_send : IsSend base.the_row
base_send = view_send _ _ _ _ _ base_inside_send

base_sync : IsSync base.the_row
base_sync = view_sync _ _ _ _ _ base_inside_sync

-- ---- the whole

taken_send : IsSend taken.the_row
taken_send = search (sendable, crosses, tree.crosses, handle_send, handle_sync) depth 40 fits 4000

taken_sync : IsSync taken.the_row
taken_sync = search (sendable, crosses, tree.crosses, handle_send, handle_sync) depth 40 fits 4000

pub versions_send : IsSend versions.the_row
versions_send = search (sendable, crosses, base_send, base_sync, taken_send, table_send) depth 40 fits 4000

pub versions_sync : IsSync versions.the_row
versions_sync = search (sendable, crosses, base_send, base_sync, taken_sync, table_sync) depth 40 fits 4000
