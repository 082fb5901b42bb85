use Rattle.std.proofs.Common.{◌≡◌, ◌≤◌, ◌++◌, length}
use Rattle.std.specs.Vec.Iter.{into_iter_items}
use Rattle.audit_updates.proofs.events.take_over.Given as goal

abbrev pub invariant-loop-entry : goal.invariant-loop-entry
invariant-loop-entry l = record {
  room : length (into_iter_items l.entry-iterator) ≤ l.log.spare;
  all : l.log.items ++ into_iter_items l.entry-iterator ≡ l.initial.log.items ++ l.fn.reads.items;
}
