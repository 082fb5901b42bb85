-- An attempt as its callers see it: the attempt itself, and the course of the step in hand, as a tree of queries that ends in the
-- attempt after the step.
use Rattle.std.specs.Prelude.{ℕ, suc, ◌+◌, nat_lt, Bool, ◌||◌, if◌then◌else◌, Option, Some, None, is_some, List}
use Rattle.def_machine.specs.Trees.{Tree, Leaf, Node, then_tree}
use Rattle.def_chase.specs.Mappings.{Rule}
use Rattle.def_chase.specs.Queries.{Query, Reply}
use Rattle.def_steps.specs.Attempts.{Attempt, Phase, Ended, Spent, outcome_in}
use Rattle.def_steps.specs.Steps.{Asking, moved}
use Rattle.chase_update.specs.Rows.{Row, row_tree}

-- A step in hand: its budget, and its state.
pub record Reading : Type 0 where
  pub budget : ℕ
  pub row : Row

-- An attempt between two steps, or as it was when the step in hand began, together with that step.
pub record State : Type 0 where
  pub attempt : Attempt
  pub reading : Option Reading

-- An attempt between two steps.
abbrev pub between : Attempt → State
between P = record { attempt = P; reading = None }

-- A tree of queries: each answer leads to the next query, up to the attempt after the step.
abbrev pub Course : Type 0
Course = Tree Query Reply Attempt

-- The course of a step of P, with this budget, that asks and does this. It ends in the attempt after the step.
abbrev pub coming_to : ℕ → Attempt → Asking → Course
coming_to B P tree = then_tree tree (λ m. Leaf (moved B P m))

-- The rest of the course after the answer to the first query.
abbrev pub by_reply : Course → Reply → Course
by_reply (Leaf P) a = Leaf P
by_reply (Node q k) a = k a

-- The query that is asked first, if one is.
abbrev pub first_asked : Course → Option Query
first_asked (Leaf P) = None
first_asked (Node q k) = Some q

-- The course of the step in hand of P, if there is one.
abbrev pub course_by : List Rule → Attempt → Option Reading → Course
course_by ms P None = Leaf P
course_by ms P (Some r) = coming_to r.budget P (row_tree ms P r.row)

-- The course of the step in hand by these mappings; between two steps the attempt itself.
abbrev pub course : List Rule → State → Course
course ms s = course_by ms s.attempt s.reading

-- The phase after `steps` steps: spent if all B steps are made and the attempt has not ended, otherwise p.
abbrev pub unless_spent : ℕ → ℕ → Phase → Phase
unless_spent B steps p = if is_some (outcome_in p) || nat_lt steps B then p else Ended Spent

-- Attempt P, whose phase and own writes are those after a step, with the step counted: also the nulls that it drew, and the
-- answer that it took, if any.
abbrev pub counted : ℕ → Bool → ℕ → Attempt → Attempt
counted B answers drawn P =
    record {
      number = P.number;
      attempt = P.attempt;
      operation = P.operation;
      phase = unless_spent B (suc P.steps) P.phase;
      own = P.own;
      steps = suc P.steps;
      nulls = P.nulls + drawn;
      taken = if answers then suc P.taken else P.taken;
    }
