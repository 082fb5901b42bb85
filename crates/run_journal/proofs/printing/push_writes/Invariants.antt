use Rattle.std.proofs.Common.{◌≡◌, ◌++◌, map, take}
use Rattle.base_types.specs.Meanings.{change_of}
use Rattle.run_journal.specs.Format.{logged, write_lines}
use Rattle.run_journal.proofs.printing.push_writes.Given as goal

-- The lines of the writes so far were added.
abbrev pub invariant-loop-write : goal.invariant-loop-write
invariant-loop-write l = l.text.items ≡ l.initial.text.items ++ write_lines l.schema (logged (map change_of (take l.write-index l.writes)))
