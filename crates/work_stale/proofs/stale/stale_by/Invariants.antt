use Rattle.std.proofs.Common.{◌≡◌, map, take, drop, ◌+◌}
use Rattle.base_types.specs.Meanings.{rule_of}
use Rattle.core_entries.specs.Meanings.{entry_of}
use Rattle.chase_query.specs.Meanings.{reads_in}
use Rattle.work_stale.specs.Stale.{is_read, first_from, stale_by}
use Rattle.work_stale.proofs.stale.stale_by.Given as goal

-- the first of all is the first of those that are left
abbrev pub invariant-loop-place : goal.invariant-loop-place
invariant-loop-place l =
    stale_by (map rule_of l.mappings.items) l.update (reads_in l.reads) (map entry_of l.entries) l.since
    ≡ first_from (is_read (map rule_of l.mappings.items) (reads_in l.reads)) l.update (map entry_of (take l.place l.entries)) (l.place + 1) (map entry_of (drop l.place l.entries))
