use Rattle.std.proofs.Common.{◌≡◌, drop, map}
use Rattle.base_types.specs.Contents.{rules_in}
use Rattle.base_types.specs.Meanings.{change_of, heading_of}
use Rattle.chase_query.specs.Meanings.{reads_in}
use Rattle.audit_replay.specs.Changes.{first_change_after}
use Rattle.audit_replay.proofs.changes.first_changed.Given as goal

-- The first of all is the first of those that are left.
abbrev pub invariant-entries : goal.invariant-entries
invariant-entries l =
    first_change_after 0 (rules_in l.reader.mappings.now) l.relations (heading_of l.reader.direction) l.reader.below.now (map change_of l.reader.own.now) (reads_in l.log)
    ≡ first_change_after l.number (rules_in l.reader.mappings.now) l.relations (heading_of l.reader.direction) l.reader.below.now (map change_of l.reader.own.now) (reads_in (drop l.entry-index l.log))
