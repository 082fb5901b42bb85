-- The turns of a step, in the terms of the steps of the chase.
use Rattle.std.specs.Prelude.{◌≡◌, ℕ, suc, ◌≤◌, List, ◌∷◌, map, drop, Some}
use Rattle.std.specs.List.{slice_get}
use Rattle.def_machine.specs.Trees.{Leaf}
use Rattle.def_chase.specs.Values.{NullName, Datum, Fact}
use Rattle.def_chase.specs.Mappings.{Rule}
use Rattle.def_chase.specs.Queries.{Reply}
use Rattle.def_chase.specs.Violations.{Direction}
use Rattle.def_chase.specs.Updates.{Operation}
use Rattle.base_types.specs.Meanings.{change_of}
use Rattle.def_steps.specs.Attempts.{Phase, Attempt}
use Rattle.def_steps.specs.Rewriting.{standing_for}
use Rattle.def_steps.specs.Steps.{Move as MoveMeant, Asking, look_from, repair}
use Rattle.chase_repair.specs.Meanings.{DrawsFrom}
use Rattle.chase_repair.specs.declared.fresh.Fresh.{Fresh}
use Rattle.chase_update.specs.Found.{Found}
use Rattle.chase_update.specs.Rows.{Row, begun_in, goes_on, named, present, replaced, row_tree}
use Rattle.chase_update.specs.Courses.{State, coming_to, course}
use Rattle.chase_update.specs.PointMeanings.{reading_of, phase_at}
use Rattle.chase_update.specs.declared.moves.Move.{Move}
use Rattle.chase_update.specs.declared.turns.Turn.{Turn}
use Rattle.chase_update.specs.declared.turns.Turn.TheVariants.{Asks, Moves}

-- The move that a `Move` stands for.
abbrev pub move_of : Move → MoveMeant
move_of m = record { writes = map change_of m.writes.items; phase = phase_at m.point; drawn = m.drawn }

-- What a step of P still asks and does after a `Turn`.
abbrev pub turn_tree : List Rule → Attempt → Turn → Asking
turn_tree ms P (Asks r) = row_tree ms P (reading_of r)
turn_tree ms P (Moves m) = Leaf (move_of m)

-- A step that began in this phase may take this turn. If the turn ends the step, the phase does not matter.
abbrev pub IsTurnOf : Phase → Turn → Type 0
IsTurnOf p (Asks r) = begun_in (reading_of r) ≡ p
IsTurnOf p (Moves m) = Unit {0}

-- The step in hand has gone on to this turn, within this budget.
abbrev pub HasFollowed : ℕ → Turn → State → State → Type 0
HasFollowed B turn s s' = (ms : List Rule) → course ms s' ≡ coming_to B s.attempt (turn_tree ms s.attempt turn)

-- For each attempt at this operation, the turn leads to this tree, whatever the mappings.
abbrev pub ComesTo : Operation → Asking → Turn → Type 0
ComesTo op tree turn = (ms : List Rule) (P : Attempt) → P.operation ≡ op → turn_tree ms P turn ≡ tree

-- The turn looks up these named nulls, given those found before.
abbrev pub LooksUp : Operation → Found → List NullName → Turn → Type 0
LooksUp op found ns = ComesTo op (named op found ns)

-- The turn asks whether the operation's tuple is there, with its named nulls resolved by those found.
abbrev pub AsksPresent : Operation → Found → Turn → Type 0
AsksPresent op found = ComesTo op (present op found)

-- For any attempt, the turn leads to this tree.
abbrev pub AlwaysComesTo : Asking → Turn → Type 0
AlwaysComesTo tree turn = (ms : List Rule) (P : Attempt) → turn_tree ms P turn ≡ tree

-- For any attempt, the turn leads to the state r of the step.
abbrev pub StandsAt : Row → Turn → Type 0
StandsAt r turn = (ms : List Rule) (P : Attempt) → turn_tree ms P turn ≡ row_tree ms P r

-- For any attempt, the turn is how the step goes on from r with the answer.
abbrev pub HasGoneOn : Row → Reply → Turn → Type 0
HasGoneOn r a turn = (ms : List Rule) (P : Attempt) → turn_tree ms P turn ≡ goes_on ms P r a

-- For each attempt at this operation, the turn is how the step goes on from r with the answer.
abbrev pub HasGoneOnFor : Operation → Row → Reply → Turn → Type 0
HasGoneOnFor op r a turn = (ms : List Rule) (P : Attempt) → P.operation ≡ op → turn_tree ms P turn ≡ goes_on ms P r a

-- For each attempt at the update of this number, the turn is how the look goes on from r with the answer, given these mappings.
abbrev pub HasLookedOn : List Rule → ℕ → Row → Reply → Turn → Type 0
HasLookedOn ms number r a turn = (P : Attempt) → P.number ≡ number → turn_tree ms P turn ≡ goes_on ms P r a

-- For each attempt at the update of this number, the turn is the look at the mappings from this place on.
abbrev pub LooksFrom : List Rule → ℕ → ℕ → Turn → Type 0
LooksFrom ms number from turn = (P : Attempt) → P.number ≡ number → turn_tree ms P turn ≡ look_from P from (drop from ms)

-- The turn is the look at mapping n, if it may be in force for the update, and at those after it.
abbrev pub LooksAt : ℕ → Rule → Turn → Type 0
LooksAt n m turn =
    (ms : List Rule) (P : Attempt) → m.since ≤ P.number → slice_get ms n ≡ Some m → turn_tree ms P turn ≡ look_from P n (m ∷ drop (suc n) ms)

-- The turn ends the look with the repair of this violation of the mapping, with fresh nulls.
abbrev pub Repairs : Fresh → Direction → ℕ → Rule → List Fact → Turn → Type 0
Repairs fresh d n m image turn = (ms : List Rule) (P : Attempt) → DrawsFrom P fresh → turn_tree ms P turn ≡ repair P d n m image

-- If the null to be replaced stands for the value d, and the tuples ts hold it, the turn looks up the null that replaces it, or
-- rewrites the tuples.
abbrev pub Replaces : Operation → Datum → List Fact → Turn → Type 0
Replaces op d ts turn = (ms : List Rule) (P : Attempt) (n : NullName) → standing_for n ts ≡ d → turn_tree ms P turn ≡ replaced op n ts

-- The attempt has this operation, and the next null that it draws is the first of the fresh ones.
pub record IsOf (P : Attempt) (f : Fresh) (op : Operation) : Type 0 where
  pub draws : DrawsFrom P f
  pub operation : P.operation ≡ op

-- For each attempt with this operation and these fresh nulls, the turn is how the step goes on from r with the answer, given
-- these mappings.
abbrev pub HasGoneOnAs : List Rule → Fresh → Operation → Row → Reply → Turn → Type 0
HasGoneOnAs ms fresh op r a turn = (P : Attempt) → IsOf P fresh op → turn_tree ms P turn ≡ goes_on ms P r a
