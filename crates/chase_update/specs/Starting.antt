-- Whether an attempt is at its start.
use Rattle.std.specs.Prelude.{Bool, true, false}
use Rattle.def_steps.specs.Attempts.{Phase, Start, Look, Generate, Asked, Ended}

-- The phase is the start, in which the operation is next.
abbrev pub is_start : Phase → Bool
is_start Start = true
is_start Look = false
is_start (Generate r) = false
is_start (Asked q) = false
is_start (Ended o) = false
