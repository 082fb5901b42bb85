use Rattle.std.proofs.Common.{◌≡◌, ◌+◌, drop}
use Rattle.base_types.specs.Contents.{rules_in}
use Rattle.chase_query.specs.Meanings.{reads_in}
use Rattle.core_cascade.specs.Reached.{first_reached_from}
use Rattle.core_cascade.proofs.lost.Lost.first_reached.Given as goal

-- The first of all is the first of those that are left.
abbrev pub invariant-loop-entry : goal.invariant-loop-entry
invariant-loop-entry l =
    first_reached_from (rules_in l.mappings) l.self.members.items 1 (reads_in l.log)
    ≡ first_reached_from (rules_in l.mappings) l.self.members.items (l.number + 1) (reads_in (drop l.entry-index l.log))
