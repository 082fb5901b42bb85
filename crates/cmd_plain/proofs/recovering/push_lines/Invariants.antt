use Rattle.std.proofs.Common.{◌≡◌, ◌++◌, take, map}
use Rattle.base_types.specs.Meanings.{fact_of}
use Rattle.cmd_plain.specs.Journaled.{tuple_lines}
use Rattle.cmd_plain.proofs.recovering.push_lines.Given as goal

-- The lines of the tuples before the place have been added.
abbrev pub invariant-loop-tuple : goal.invariant-loop-tuple
invariant-loop-tuple l = l.text.items ≡ l.initial.text.items ++ tuple_lines l.schema (map fact_of (take l.tuple-index l.tuples))
