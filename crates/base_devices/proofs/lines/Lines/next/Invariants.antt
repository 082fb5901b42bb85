-- What was kept and what was taken so far are the line so far and what is kept now; the line has no line feed.
use Rattle.std.proofs.Common.{◌≤◌, ℕ}
use Rattle.base_devices.specs.Given.{IsBegun}
use Rattle.base_devices.proofs.lines.Lines.next.Given as goal

abbrev pub invariant-pieces : goal.invariant-pieces
invariant-pieces g l =
    IsBegun (g.S.Source.left l.initial.source) (g.S.Source.left l.source) l.initial.self l.self l.line.items
    × (g.S.Source.fault_count l.initial.source ≤ g.S.Source.fault_count l.source)

abbrev pub decreases-pieces : goal.decreases-pieces
decreases-pieces g l = l.self.room
