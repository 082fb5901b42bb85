use Rattle.std.proofs.Common.{◌≡◌, ◌+◌, ◌-◌, map}
use Rattle.base_types.specs.Contents.{rules_in}
use Rattle.base_types.specs.Meanings.{change_of, heading_of}
use Rattle.chase_query.specs.Meanings.{passing}
use Rattle.audit_replay.specs.Changes.{first_change_after}
use Rattle.audit_replay.proofs.changes.changed_in_passage.Given as goal

-- The first of all is the first of those that are left.
abbrev pub invariant-loop-mapping : goal.invariant-loop-mapping
invariant-loop-mapping l = record {
  counted : l.number ≡ l.before + (l.mapping - l.passage.start);
  first :
      first_change_after l.before (rules_in l.reader.mappings.now) l.relations (heading_of l.reader.direction) l.reader.below.now (map change_of l.reader.own.now) (passing l.passage.start (l.passage.end - l.passage.start) l.passage.own)
      ≡ first_change_after l.number (rules_in l.reader.mappings.now) l.relations (heading_of l.reader.direction) l.reader.below.now (map change_of l.reader.own.now) (passing l.mapping (l.passage.end - l.mapping) l.passage.own);
}
