use Rattle.std.proofs.Common.{◌≡◌, map, drop}
use Rattle.base_types.specs.Meanings.{rule_of}
use Rattle.chase_query.specs.Meanings.{read_of}
use Rattle.core_cascade.specs.Reached.{least_writer}
use Rattle.core_cascade.proofs.lost.Lost.writer_for.Given as goal

-- The first of all is the first of those that are left.
abbrev pub invariant-loop-member : goal.invariant-loop-member
invariant-loop-member l =
    least_writer (map rule_of l.mappings.items) (read_of l.read) l.self.members.items
    ≡ least_writer (map rule_of l.mappings.items) (read_of l.read) (drop l.member-index l.self.members.items)
