-- A drain of a history: turns until it is quiet. Each is a step of the lowest ready update, else a delivery to the lowest
-- update that can have one.
use Rattle.std.specs.Prelude.{ℕ, zero, suc, Bool, List, Option, Some, option_and_then}
use Rattle.def_machine.specs.Drains.{next_turn}
use Rattle.def_machine.specs.Standings.{is_quiet}
use Rattle.def_machine.specs.Work.{work}
use Rattle.def_history.specs.PlainEntries.{PlainEntry}
use Rattle.def_history.specs.Cores.{Ground, machine, updates_after, grown}

-- The history with the entry of the next turn, if there is a turn.
abbrev pub turned : Ground → List PlainEntry → Option (List PlainEntry)
turned g H = option_and_then (grown g H) (next_turn (machine g) g.settings (updates_after g H))

-- The history after n turns, if that many can be made.
abbrev pub after_turns : Ground → ℕ → List PlainEntry → Option (List PlainEntry)
after_turns g zero H = Some H
after_turns g (suc n) H = option_and_then (after_turns g n) (turned g H)

-- The work that is left after the history.
abbrev pub work_after : Ground → List PlainEntry → ℕ
work_after g H = work (machine g) g.settings (updates_after g H)

-- After the history nothing is ready, and nothing can be delivered.
abbrev pub is_quiet_after : Ground → List PlainEntry → Bool
is_quiet_after g H = is_quiet (machine g) g.settings (updates_after g H)
