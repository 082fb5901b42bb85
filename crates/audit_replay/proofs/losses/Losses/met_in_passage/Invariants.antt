use Rattle.std.proofs.Common.{◌≡◌, ◌+◌, ◌-◌}
use Rattle.base_types.specs.Contents.{rules_in}
use Rattle.chase_query.specs.Meanings.{passing}
use Rattle.audit_replay.specs.Changes.{first_after, is_read_met}
use Rattle.audit_replay.proofs.losses.Losses.met_in_passage.Given as goal

-- The first of all is the first of those that are left.
abbrev pub invariant-loop-mapping : goal.invariant-loop-mapping
invariant-loop-mapping l = record {
  counted : l.number ≡ l.before + (l.mapping - l.passage.start);
  first :
      first_after (is_read_met (rules_in l.mappings) l.self.relations.items) l.before (passing l.passage.start (l.passage.end - l.passage.start) l.passage.own)
      ≡ first_after (is_read_met (rules_in l.mappings) l.self.relations.items) l.number (passing l.mapping (l.passage.end - l.mapping) l.passage.own);
}
