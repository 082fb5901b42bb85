-- The result of a core.
use Rattle.std.specs.Prelude.{◌≡◌}
use Rattle.def_machine.specs.Serial.{first_stop}
use Rattle.def_history.specs.AnyOrder.{tells}
use Rattle.def_history.specs.Cores.{machine, session_over}
use Rattle.chase_update.specs.Results.{result_in, result_of}
use Rattle.chase_update.specs.declared.results.SessionResult.{SessionResult}
use Rattle.core_engine.specs.States.{State, updates_at}

-- This is the result of its updates: how the committed ones ended, where the lowest that is not committed stops, and the
-- repository that the committed ones left, with nulls in outer form.
abbrev pub IsResultOf : State → SessionResult → Type 0
IsResultOf s r = result_of r ≡ result_in (tells s.over.rules s.over.budget (session_over s.over) (updates_at s) (first_stop (machine s.over) 1 (updates_at s)))
