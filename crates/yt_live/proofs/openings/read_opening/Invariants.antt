-- The lines so far are no `end`: what was taken is the text so far and what is kept.
use Rattle.std.proofs.Common.{◌+◌, ◌≤◌, length}
use Rattle.yt_live.proofs.Opening.{IsOpening}
use Rattle.yt_live.proofs.openings.read_opening.Given as goal

abbrev pub invariant-each : goal.invariant-each
invariant-each g l =
    IsOpening (g.S.Source.left l.initial.source) (g.S.Source.left l.source) l.initial.lines l.lines l.text.items
    × (g.S.Source.fault_count l.initial.source ≤ g.S.Source.fault_count l.source)

abbrev pub decreases-each : goal.decreases-each
decreases-each g l = l.lines.room + length l.lines.bytes
