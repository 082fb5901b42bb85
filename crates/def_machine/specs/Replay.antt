-- Replay: an attempt is the machine's run over a repository exactly if its logged reads are valid there; and a step whose reads
-- are valid is the step there.
use Rattle.std.specs.Prelude.{◌≡◌, ℕ, true, List}
use Rattle.std.specs.List.{list_all}
use Rattle.def_machine.specs.Machine.{Machine}
use Rattle.def_machine.specs.Updates.{Read}
use Rattle.def_machine.specs.Reads.{is_valid}
use Rattle.def_machine.specs.Steps.{next_move, step_log}
use Rattle.def_machine.specs.Runs.{Reached}

-- The properties of the log of a run over D.
pub record IsReplayed (M : Machine) (D : M.Repository) (answers : List M.Choice) (n a : ℕ) (op : M.Operation) (P : M.State) (log : List (Read M)) : Type 0 where
  -- the reads of a run over D are valid over D
  pub valid : list_all (is_valid M op D (M.own P)) log ≡ true
  -- if they are valid over another repository, the attempt is the run there too, wherever its reads were answered
  pub elsewhere : (E : M.Repository) → list_all (is_valid M op E (M.own P)) log ≡ true
      → Reached M E answers n a op P log

-- This holds for every run.
abbrev pub ReplayLaw : Machine → Type 0
ReplayLaw M =
    (D : M.Repository) (answers : List M.Choice) (n a : ℕ) (op : M.Operation) (P : M.State) (log : List (Read M))
    → Reached M D answers n a op P log → IsReplayed M D answers n a op P log

-- If all reads of a step that was made over D are valid over E, the step over E is the same, with the same reads.
abbrev pub PlanLaw : Machine → Type 0
PlanLaw M =
    (op : M.Operation) (D E : M.Repository) (answers : List M.Choice) (P : M.State)
    → list_all (is_valid M op E (M.own P)) (step_log M op D answers P) ≡ true
    → (next_move M op E answers P ≡ next_move M op D answers P) × (step_log M op E answers P ≡ step_log M op D answers P)
