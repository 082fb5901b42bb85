use Rattle.std.proofs.Common.{◌≡◌, map, take}
use Rattle.core_entries.specs.Meanings.{entry_of}
use Rattle.work_stale.specs.Shown.{trail_by}
use Rattle.work_stale.specs.Stale.{mentioned_by, any_of}
use Rattle.work_stale.proofs.stale.showed.Given as goal

-- what is answered of all entries is answered of the first ones that are left
abbrev pub invariant-loop-place : goal.invariant-loop-place
invariant-loop-place l =
    any_of (mentioned_by l.mappings l.reads) (trail_by l.by (map entry_of l.before))
    ≡ any_of (mentioned_by l.mappings l.reads) (trail_by l.by (map entry_of (take l.place l.before)))
