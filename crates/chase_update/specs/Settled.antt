-- The result of a look that passes over mappings without a violation.
use Rattle.std.specs.Prelude.{◌≡◌, ◌≤◌, ℕ, Bool, true, false, List, length, slice_index_or}
use Rattle.def_machine.specs.Trees.{Tree, result_of, log_of}
use Rattle.def_chase.specs.Queries.{Query, Reply, Violation, Nothing}

-- `val` finds no violation of a mapping with a mark.
abbrev pub FindsNone : (Query → Reply) → List Bool → Type 0
FindsNone val marks = (n : ℕ) → slice_index_or marks n false ≡ true → val (Violation n) ≡ Nothing

-- If `val` answers, u has the same result as t, with no more queries.
pub record IsShorter {A : Type 0} (val : Query → Reply) (t u : Tree Query Reply A) : Type 0 where
  pub same : result_of val u ≡ result_of val t
  pub fewer : length (log_of val u) ≤ length (log_of val t)
