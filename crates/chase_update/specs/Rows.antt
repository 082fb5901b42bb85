-- The state of a step in hand, as data, and how the step goes on with the answer to its query.
use Rattle.std.specs.Prelude.{ℕ, suc, Bool, if◌then◌else◌, List, [], ◌∷◌, ◌++◌, map, drop, Option, Some, None}
use Rattle.std.specs.List.{slice_get}
use Rattle.def_machine.specs.Trees.{Node}
use Rattle.def_chase.specs.Values.{NullName, Datum, Fact, under}
use Rattle.def_chase.specs.Repository.{Insert, Delete}
use Rattle.def_chase.specs.Mappings.{Rule, force}
use Rattle.def_chase.specs.Queries.{Query, Present, Violation, Occurs, Reply}
use Rattle.def_chase.specs.Updates.{Operation, Adds, Removes, Replaces, Enacts}
use Rattle.def_steps.specs.Attempts.{Phase, Start, Look, Attempt}
use Rattle.def_steps.specs.Rewriting.{rewrite, replacing, null_of, standing_for}
use Rattle.def_steps.specs.Steps.{Asking, makes, tuples_of, is_yes, image_in, resolve, unless_none, find_nulls, repair_or, look_at, look_from}
use Rattle.chase_repair.specs.Repairs.{Repairing, phase_of, tree_in}
use Rattle.chase_repair.specs.Stands.{wanted, query_in, branch}
use Rattle.chase_update.specs.Found.{Found, found_in, settled}

-- The state of a step in hand. The step of an operation looks up a named null, with those found before and those that come after;
-- asks whether the operation's tuple is there; looks up the null to be replaced; or looks up the null that replaces this value in
-- these tuples. A look asks whether the mapping of this number is in force, or for its first violation. Or the step is one of a
-- repair.
pub data Row : Type 0 where
  Naming : Found → NullName → List NullName → Row
  Writing : Fact → Row
  Replacing : NullName → Row
  Renaming : NullName → Datum → List Fact → Row
  Forcing : ℕ → Row
  Violating : ℕ → Row
  Mending : Repairing → Row

-- The phase in which the step began.
abbrev pub begun_in : Row → Phase
begun_in (Naming found n ns) = Start
begun_in (Writing t) = Start
begun_in (Replacing n) = Start
begun_in (Renaming n d ts) = Start
begun_in (Forcing n) = Look
begun_in (Violating n) = Look
begun_in (Mending r) = phase_of r

-- The query that the step asks.
abbrev pub asked : Row → Option Query
asked (Naming found n ns) = Some (Occurs n.update n.place)
asked (Writing t) = Some (Present t)
asked (Replacing n) = Some (Occurs n.update n.place)
asked (Renaming n d ts) = Some (Occurs n.update n.place)
asked (Forcing n) = Some (Present (force n))
asked (Violating n) = Some (Violation n)
asked (Mending r) = query_in (wanted r)

-- An insertion writes the tuple if it is not there, a deletion if it is.
abbrev pub written : Operation → Fact → Bool → Asking
written (Adds t) u there = if there then makes [] Look else makes (Insert u ∷ []) Look
written (Removes t) u there = if there then makes (Delete u ∷ []) Look else makes [] Look
written (Replaces n v) u there = makes [] Look
written (Enacts n) u there = makes [] Look

-- With all nulls found, the step asks whether the operation's tuple is there.
abbrev pub present : Operation → Found → Asking
present (Adds t) found = Node (Present (under (settled found) t)) (λ a. written (Adds t) (under (settled found) t) (is_yes a))
present (Removes t) found = Node (Present (under (settled found) t)) (λ a. written (Removes t) (under (settled found) t) (is_yes a))
present (Replaces n v) found = makes [] Look
present (Enacts n) found = makes [] Look

-- The step looks up these nulls, given those found before.
abbrev pub named : Operation → Found → List NullName → Asking
named op found ns = find_nulls ns (λ holders. present op (found ++ map found_in holders))

-- The step ends with the tuples rewritten: `value` in place of d.
abbrev pub rewriting : Datum → Datum → List Fact → Asking
rewriting d value ts = makes (rewrite (replacing d value) ts) Look

-- The step rewrites the tuples that hold the named null, once the null that replaces it is found.
abbrev pub replaced : Operation → NullName → List Fact → Asking
replaced (Adds t) n ts = makes [] Look
replaced (Removes t) n ts = makes [] Look
replaced (Replaces m v) n ts = find_nulls (null_of v) (λ holders. rewriting (standing_for n ts) (resolve holders v) ts)
replaced (Enacts m) n ts = makes [] Look

-- The look at the mappings that come after the one of this number.
abbrev pub look_on : List Rule → Attempt → ℕ → Asking
look_on ms P n = look_from P (suc n) (drop (suc n) ms)

-- The look at mapping n, if there is one, and then the rest.
abbrev pub looking : Attempt → ℕ → Option Rule → Asking → Asking
looking P n None rest = rest
looking P n (Some m) rest = look_at P n m rest

-- The repair of the violation of mapping n, if there is one; otherwise the rest.
abbrev pub repaired : Attempt → ℕ → Option Rule → Option (List Fact) → Asking → Asking
repaired P n None image rest = rest
repaired P n (Some m) image rest = repair_or P n m image rest

-- How the step goes on with the answer.
abbrev pub goes_on : List Rule → Attempt → Row → Reply → Asking
goes_on ms P (Naming found n ns) a = unless_none n (tuples_of a) (named P.operation (found ++ (n, standing_for n (tuples_of a)) ∷ []) ns)
goes_on ms P (Writing t) a = written P.operation t (is_yes a)
goes_on ms P (Replacing n) a = unless_none n (tuples_of a) (replaced P.operation n (tuples_of a))
goes_on ms P (Renaming n d ts) a = unless_none n (tuples_of a) (rewriting d (standing_for n (tuples_of a)) ts)
goes_on ms P (Forcing n) a = if is_yes a then looking P n (slice_get ms n) (look_on ms P n) else look_on ms P n
goes_on ms P (Violating n) a = repaired P n (slice_get ms n) (image_in a) (look_on ms P n)
goes_on ms P (Mending r) a = branch (tree_in ms r) a

-- What the step in hand still asks and does.
abbrev pub row_tree : List Rule → Attempt → Row → Asking
row_tree ms P (Naming found n ns) = Node (Occurs n.update n.place) (goes_on ms P (Naming found n ns))
row_tree ms P (Writing t) = Node (Present t) (goes_on ms P (Writing t))
row_tree ms P (Replacing n) = Node (Occurs n.update n.place) (goes_on ms P (Replacing n))
row_tree ms P (Renaming n d ts) = Node (Occurs n.update n.place) (goes_on ms P (Renaming n d ts))
row_tree ms P (Forcing n) = Node (Present (force n)) (goes_on ms P (Forcing n))
row_tree ms P (Violating n) = Node (Violation n) (goes_on ms P (Violating n))
row_tree ms P (Mending r) = tree_in ms r
