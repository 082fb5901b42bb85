use Rattle.std.proofs.Common.{◌≡◌, ◌++◌, length, map}
use Rattle.std.specs.List.{AllByRecursion}
use Rattle.base_types.specs.Meanings.{change_of}
use Rattle.run_journal.specs.Format.{IsWrite, write_lines}
use Rattle.run_journal.proofs.reading.read_writes.Given as goal

-- The text is the lines of the writes so far, and what is left.
abbrev pub invariant-lines : goal.invariant-lines
invariant-lines l = record {
  read : l.text ≡ write_lines l.session.schema (map change_of l.writes.items) ++ l.rest;
  writes : AllByRecursion (IsWrite l.session.schema) (map change_of l.writes.items);
}

abbrev pub decreases-lines : goal.decreases-lines
decreases-lines l = length l.rest
