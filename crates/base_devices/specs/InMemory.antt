-- A disk in memory: a trace of the calls that it counted, some of which fail.
use Rattle.std.specs.Prelude.{ℕ, List, []}
use Rattle.base_devices.specs.States.{State}
use Rattle.base_devices.specs.Logs.{Log, never_fails}
use Rattle.base_devices.specs.Traces as traces
use Rattle.base_devices.specs.Traces.{Trace, state_with}

-- the bytes that it was made of, and its calls
pub record MemState : Type 0 where
  pub made_of : List ℕ
  pub log : Log

abbrev pub trace_of : MemState → Trace
trace_of m = record { made_of = m.made_of; calls = m.log.calls }

-- the bytes that a read gives
abbrev pub bytes_of : MemState → List ℕ
bytes_of m = traces.bytes_of (trace_of m)

-- a disk made of these bytes, before its first call
abbrev pub unused_disk : List ℕ → List ℕ → MemState
unused_disk bytes failing = record { made_of = bytes; log = record { calls = []; failing = failing; faults = 0 } }

-- the disk, as its user sees it
abbrev pub state_of : MemState → State
state_of m = state_with (never_fails m.log.failing) m.log.faults (trace_of m)
