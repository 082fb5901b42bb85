-- The sink has taken the bytes before `at`, and its count of faults has not fallen.
use Rattle.std.proofs.Common.{◌-◌, ◌≤◌, length, take}
use Rattle.std.specs.Io.KnownBytes.{Appends}
use Rattle.base_devices.proofs.whole.write_all.Given as goal

abbrev pub invariant-loop-at : goal.invariant-loop-at
invariant-loop-at g l =
    Appends (g.O.Sink.taken l.initial.sink) (g.O.Sink.taken l.sink) (take l.at l.bytes)
    × (l.at ≤ length l.bytes)
    × (g.O.Sink.fault_count l.initial.sink ≤ g.O.Sink.fault_count l.sink)

abbrev pub decreases-loop-at : goal.decreases-loop-at
decreases-loop-at g l = length l.bytes - l.at
