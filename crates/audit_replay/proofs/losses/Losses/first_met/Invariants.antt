use Rattle.std.proofs.Common.{◌≡◌, drop}
use Rattle.base_types.specs.Contents.{rules_in}
use Rattle.chase_query.specs.Meanings.{reads_in}
use Rattle.audit_replay.specs.Changes.{first_after, is_read_met}
use Rattle.audit_replay.proofs.losses.Losses.first_met.Given as goal

-- The first of all is the first of those that are left.
abbrev pub invariant-entries : goal.invariant-entries
invariant-entries l =
    first_after (is_read_met (rules_in l.mappings) l.self.relations.items) 0 (reads_in l.log)
    ≡ first_after (is_read_met (rules_in l.mappings) l.self.relations.items) l.number (reads_in (drop l.entry-index l.log))
