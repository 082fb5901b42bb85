-- The marks of a desk.
use Rattle.std.specs.Prelude.{ℕ, List, [], ◌∷◌, map, Some}
use Rattle.def_record.specs.declared.made.Made.{Made}
use Rattle.def_record.specs.declared.item.Mark.{Mark}
use Rattle.def_record.specs.declared.item.Mark.TheVariants.{Next, Giving, Returning}
use Rattle.def_history.specs.Cores.{Ground}
use Rattle.def_history.specs.PlainEntries.{PlainEntry}
use Rattle.work_desk.specs.declared.board.Marked.{Marked}
use Rattle.work_desk.specs.Shared.{Shared}

-- A mark with its maker.
abbrev pub made_of : Marked → Made Mark
made_of m = record { entry = m.mark; maker = Some m.maker }

-- The marks of a step that the seat j makes with the ticket n for the update u: the ticket is given, the step is made, the ticket
-- is returned.
abbrev pub step_marked : ℕ → ℕ → ℕ → List Marked
step_marked j n u = record { mark = Giving n u; maker = j } ∷ record { mark = Next; maker = j } ∷ record { mark = Returning n; maker = j } ∷ []

-- What the seats share, from the fields of a board.
abbrev pub shared : Ground → List PlainEntry → ℕ → List Marked → List ℕ → ℕ → Shared
shared g H k ms busy n = record { over = g; history = H; opened = k; marks = map made_of ms; busy = busy; given = n }
