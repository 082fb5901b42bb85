use Rattle.std.proofs.Common.{◌≡◌, ◌-◌}
use Rattle.std.specs.List.{list_any}
use Rattle.base_types.specs.Contents.{rules_in}
use Rattle.chase_query.specs.Meanings.{passing}
use Rattle.chase_query.specs.Mentioning.{mentioned}
use Rattle.chase_query.proofs.log.Passage.mentions.Given as goal

-- One of all of them does where one of those that are left does.
abbrev pub invariant-loop-number : goal.invariant-loop-number
invariant-loop-number l =
    list_any (mentioned (rules_in l.mappings) l.relation) (passing l.fn.self.start (l.fn.self.end - l.fn.self.start) l.fn.self.own)
    ≡ list_any (mentioned (rules_in l.mappings) l.relation) (passing l.number (l.fn.self.end - l.number) l.fn.self.own)
