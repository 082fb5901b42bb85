-- A log worked line by line, with a fold in it.
use Rattle.std.specs.Prelude.{◌≡◌, List, [], ◌∷◌, ◌++◌, map}
use Rattle.def_chase.specs.Values.{Fact}
use Rattle.def_steps.specs.Chase.{every}
use Rattle.def_workspace.specs.Lines.{Line, Undoes, Redoes}
use Rattle.def_workspace.specs.Names.{fact_named}
use Rattle.def_workspace.specs.States.{taken_all}
use Rattle.def_workspace.specs.Rows.{asking, answering, begun, pair, num, called}
use Rattle.ws_laws.specs.Logs.{Throughout}
use Rattle.ws_laws.specs.Folds.{folded}
use Rattle.ws_laws.specs.Replays.{IsTold}

-- A question, its answer, new unknowns, an undo and a redo.
abbrev pub worked : List Line
worked = asking ++ (answering ++ Undoes (1 ∷ []) ∷ Redoes (1 ∷ []) ∷ [])

-- The tuples by names after these lines and a fold, and then those.
abbrev pub shown_after : List Line → List Line → List Fact
shown_after xs ys = let w = (taken_all every (folded (taken_all every begun xs)) ys).live.world in map (fact_named w.names) w.facts

-- The tuples after the answer and update 4, which inserts a tuple with two new unknowns.
abbrev pub all_of_them : List Fact
all_of_them = pair 0 (num 1) (num 2) ∷ pair 1 (num 1) (num 5) ∷ pair 1 (called 4 1) (called 4 2) ∷ pair 2 (num 5) (num 6) ∷ []

-- Each line is fit, and its answer is heard. A fold before the answer is not seen, also not by an undo of update 4, which came after
-- it. After a fold that comes later, update 1 can be undone no more.
pub record FoldIsWorked : Type 0 where
  pub told : Throughout every (IsTold every) begun worked
  pub seen : shown_after asking answering ≡ all_of_them
  pub undone : shown_after asking (answering ++ Undoes (4 ∷ []) ∷ []) ≡ pair 0 (num 1) (num 2) ∷ pair 1 (num 1) (num 5) ∷ pair 2 (num 5) (num 6) ∷ []
  pub kept : shown_after (asking ++ answering) (Undoes (1 ∷ []) ∷ []) ≡ all_of_them
