use Rattle.std.proofs.Common.{◌≡◌, ◌+◌, ◌-◌}
use Rattle.base_types.specs.Contents.{rules_in}
use Rattle.chase_query.specs.Meanings.{passing}
use Rattle.core_cascade.specs.Reached.{first_reached_from}
use Rattle.core_cascade.proofs.lost.Lost.reached_in_passage.Given as goal

-- The first of all is the first of those that are left.
abbrev pub invariant-loop-mapping : goal.invariant-loop-mapping
invariant-loop-mapping l = record {
  counted : l.number ≡ l.before + (l.mapping - l.passage.start);
  first :
      first_reached_from (rules_in l.mappings) l.self.members.items (l.before + 1) (passing l.passage.start (l.passage.end - l.passage.start) l.passage.own)
      ≡ first_reached_from (rules_in l.mappings) l.self.members.items (l.number + 1) (passing l.mapping (l.passage.end - l.mapping) l.passage.own);
}
