use Rattle.std.proofs.Common.{◌≡◌, ◌++◌, map, take}
use Rattle.std.specs.List.{flat_map}
use Rattle.core_entries.specs.Meanings.{entry_of}
use Rattle.audit_trace.specs.Traces.{entry_line}
use Rattle.audit_trace.proofs.traces.with_lines.Given as goal

abbrev pub invariant-loop-entry : goal.invariant-loop-entry
invariant-loop-entry l = l.text.items ≡ l.initial.text.items ++ flat_map (entry_line l.schema) (map entry_of (take l.entry-index l.history))
