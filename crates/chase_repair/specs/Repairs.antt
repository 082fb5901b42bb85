-- The state of the repair of one violation, as data, and what the step under way still asks and does.
use Rattle.std.specs.Prelude.{Bool, true, false, List, [], ◌∷◌, ◌++◌, map}
use Rattle.def_machine.specs.Trees.{Node}
use Rattle.def_chase.specs.Values.{NullName, Datum, Fact}
use Rattle.def_chase.specs.Mappings.{Rule}
use Rattle.def_chase.specs.Queries.{Query, Specific, Occurs}
use Rattle.base_types.specs.Maps.{images_of, moved_by}
use Rattle.def_steps.specs.Attempts.{Repair, Question, Positive, Phase, Look, Generate, Asked}
use Rattle.def_steps.specs.Rewriting.{in_order, rewrite, next_atom}
use Rattle.def_steps.specs.Steps.{Asking, makes, tuples_of, generate, compared, gather}

-- The step of an answer `unify` under way: the unifier as images of nulls, the present query, the nulls to ask for after it, and
-- the tuples found so far.
pub record Gathering : Type 0 where
  pub images : List (NullName × Datum)
  pub query : Query
  pub later : List NullName
  pub found : List Fact

-- The step after the tuples ts of the query are found: it asks for the next of these nulls.
abbrev pub asking_next : List NullName → Gathering → List Fact → Gathering
asking_next [] g ts = g
asking_next (n ∷ ns) g ts = record { images = g.images; query = Occurs n.update n.place; later = ns; found = g.found ++ ts }

-- The state of a repair. Between two steps it is about to generate, waits at a question, or is at its end. Within a step it asks
-- whether the generated tuple is present, which tuples are more specific, or which tuples hold the moved nulls; the last is at an
-- answer `unify` to the positive question of the repair, the tuple and the candidates.
pub data Repairing : Type 0 where
  Generating : Repair → Repairing
  Checking : Repair → Fact → Repairing
  Comparing : Repair → Fact → Repairing
  Waiting : Question → Repairing
  Unifying : Repair → Fact → List Fact → Gathering → Repairing
  Repaired : Repairing

-- The phase between two steps; within a step, the phase in which that step began.
abbrev pub phase_of : Repairing → Phase
phase_of (Generating r) = Generate r
phase_of (Checking r t) = Generate r
phase_of (Comparing r t) = Generate r
phase_of (Waiting q) = Asked q
phase_of (Unifying r t cs g) = Asked (Positive r t cs)
phase_of Repaired = Look

-- Whether a step is under way, which asks a query.
abbrev pub is_asking : Repairing → Bool
is_asking (Generating r) = false
is_asking (Checking r t) = true
is_asking (Comparing r t) = true
is_asking (Waiting q) = false
is_asking (Unifying r t cs g) = true
is_asking Repaired = false

-- The repair with f applied to each of its values.
abbrev pub moved_repair : (Datum → Datum) → Repair → Repair
moved_repair f r = record { mapping = r.mapping; binding = map f r.binding; atom = r.atom }

-- The end of the step of `unify`, with all tuples found: the substitution by the images is applied to them and to the values of
-- the repair.
abbrev pub unified : List Rule → Repair → List (NullName × Datum) → List Fact → Asking
unified ms r images ts =
    makes (rewrite (moved_by (images_of images)) (in_order ts)) (next_atom ms (moved_repair (moved_by (images_of images)) r))

-- What the step under way still asks and does; nothing between two steps.
abbrev pub tree_in : List Rule → Repairing → Asking
tree_in ms (Generating r) = makes [] (Generate r)
tree_in ms (Checking r t) = generate ms r t
tree_in ms (Comparing r t) = Node (Specific t) (λ a. compared ms r t (tuples_of a))
tree_in ms (Waiting q) = makes [] (Asked q)
tree_in ms (Unifying r t cs g) = Node g.query (λ a. gather g.later (λ ts. unified ms r g.images (g.found ++ (tuples_of a ++ ts))))
tree_in ms Repaired = makes [] Look
