use Rattle.std.proofs.Common.{◌≡◌}
use Rattle.work_desk.specs.Shared.{items_of}
use Rattle.work_desk.specs.Stretches.{HasMadeMoves}
use Rattle.work_desk.proofs.board.Board.stretch.Given as goal

-- so many moves were made
abbrev pub invariant-loop-made : goal.invariant-loop-made
invariant-loop-made g l = (l.self.over ≡ l.initial.self.over) × HasMadeMoves l.made l.seat l.initial.self.over (items_of l.self) (items_of l.initial.self)
