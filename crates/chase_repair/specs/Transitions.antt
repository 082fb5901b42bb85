-- The transitions of a repair: the look that makes it, the beginning of a step, the answer to a step's query, and the step of the
-- answer to a question.
use Rattle.std.specs.Prelude.{◌≡◌, ℕ, List, Option, Some}
use Rattle.def_chase.specs.Values.{Fact}
use Rattle.def_chase.specs.Mappings.{Rule}
use Rattle.def_chase.specs.Updates.{Choice}
use Rattle.def_chase.specs.Violations.{Forward}
use Rattle.base_types.specs.Contents.{changes_of}
use Rattle.base_types.specs.Listed.{Listed}
use Rattle.base_types.specs.Meanings.{choice_of}
use Rattle.base_types.specs.declared.updates.Choice.{Choice as ChoiceOfProgram}
use Rattle.base_types.specs.declared.updates.Write.{Write}
use Rattle.chase_query.specs.Meanings.{reply_of}
use Rattle.chase_query.specs.declared.replies.Reply.{Reply}
use Rattle.def_steps.specs.Attempts.{Attempt}
use Rattle.def_steps.specs.Rewriting.{in_order}
use Rattle.def_steps.specs.Steps.{makes, repair, negative, step_in}
use Rattle.chase_repair.specs.Repairs.{Repairing, phase_of, is_asking, tree_in}
use Rattle.chase_repair.specs.Stands.{branch, drawing, settled, stand}
use Rattle.chase_repair.specs.Meanings.{asks_on, DrawsFrom}
use Rattle.chase_repair.specs.declared.fresh.Fresh.{Fresh}
use Rattle.chase_repair.specs.declared.wants.Progress.{Progress}

-- A look has made the repair by insertions of this violation of mapping n, and has drawn its fresh nulls.
abbrev pub IsForward : Fresh → ℕ → Rule → List Fact → Repairing → Type 0
IsForward fresh n m image s = (P : Attempt) → DrawsFrom P fresh → repair P Forward n m image ≡ drawing (phase_of s) m.existential

-- A look has made the repair by deletions of this violation of mapping n, with these writes.
abbrev pub IsBackward : ℕ → List Fact → Repairing → Listed Write → Type 0
IsBackward n image s writes = makes (changes_of writes) (phase_of s) ≡ negative n (in_order image)

-- The next step has begun.
abbrev pub HasBegun : List Rule → Repairing → Repairing → Type 0
HasBegun ms s s' = (P : Attempt) (c : Option Choice) → tree_in ms s' ≡ step_in ms P c (phase_of s)

-- With the answer to its query the step asks a further query or ends. The own writes are then own', and the state is s'.
abbrev pub HasAnswered : List Rule → Reply → Listed Write → Repairing → Listed Write → Repairing → Progress → Type 0
HasAnswered ms a own s own' s' progress =
    stand ms (asks_on progress) (changes_of own') s' ≡ settled (changes_of own) (phase_of s) (branch (tree_in ms s) (reply_of a))

-- With the answer to the question its step asks a query or ends. The own writes are then own', and the state is s'.
abbrev pub HasChosen : List Rule → ChoiceOfProgram → Listed Write → Repairing → Listed Write → Repairing → Progress → Type 0
HasChosen ms c own s own' s' progress =
    (P : Attempt)
    → stand ms (asks_on progress) (changes_of own') s' ≡ settled (changes_of own) (phase_of s) (step_in ms P (Some (choice_of c)) (phase_of s))

-- The repair asks a query exactly if the step goes on.
abbrev pub AsksAs : Repairing → Progress → Type 0
AsksAs s progress = is_asking s ≡ asks_on progress
