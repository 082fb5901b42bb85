-- The lines so far asked for no end: the sink took what was told, and what follows is served at the session that they left.
use Rattle.std.proofs.Common.{◌+◌, ◌≤◌, length}
use Rattle.live_replies.specs.Meanings.{live_of}
use Rattle.yt_live.proofs.Turning.{IsServing}
use Rattle.yt_live.proofs.serving.converse.Given as goal

abbrev pub invariant-each : goal.invariant-each
invariant-each g l =
    IsServing (live_of l.initial.conversation) (live_of l.conversation) (g.S.Source.left l.initial.source) (g.S.Source.left l.source)
    (g.O.Sink.taken l.initial.sink) (g.O.Sink.taken l.sink) l.initial.lines l.lines
    × (g.S.Source.fault_count l.initial.source ≤ g.S.Source.fault_count l.source)
    × (g.O.Sink.fault_count l.initial.sink ≤ g.O.Sink.fault_count l.sink)

abbrev pub decreases-each : goal.decreases-each
decreases-each g l = l.lines.room + length l.lines.bytes
