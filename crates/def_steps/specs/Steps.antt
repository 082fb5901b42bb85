-- One step of an attempt, as the tree of the queries that it asks: one case for each row of the table in docs/RULES.md.
use Rattle.std.specs.Prelude.{ℕ, suc, ◌==◌, ◌+◌, nat_lt, Bool, true, false, ◌||◌, if◌then◌else◌, List, [], ◌∷◌, ◌++◌, map, Option, Some, None, find, unwrap_or, is_some, pos}
use Rattle.std.specs.Option.{option_map}
use Rattle.def_machine.specs.Trees.{Tree, Leaf, Node}
use Rattle.def_chase.specs.Values.{Datum, Number, Text, Unknown, NullName, Fact, same_datum, under}
use Rattle.def_chase.specs.Repository.{Change, Insert, Delete}
use Rattle.def_chase.specs.Mappings.{Rule, force}
use Rattle.def_chase.specs.Unifier.{unifier}
use Rattle.def_chase.specs.Violations.{Direction, Forward, Backward}
use Rattle.def_chase.specs.Queries.{Query, Present, Violation, Specific, Occurs, Reply, Yes, No, Image, Nothing, Tuples}
use Rattle.def_chase.specs.Updates.{Operation, Adds, Removes, Replaces, Enacts, direction_of, Choice, Expand, Unify, Drop}
use Rattle.def_steps.specs.Attempts.{Done, Spent, Refused, Repair, Question, Positive, Negative, Phase, Start, Look, Generate, Asked, Ended, Attempt, question_in, outcome_in}
use Rattle.def_steps.specs.Rewriting.{in_order, rewrite, replacing, null_of, nulls_in, moved_nulls, standing_for, binding_of, fresh_nulls, generated, next_atom}
use Rattle.def_steps.specs.Questions.{candidate, named}

-- The move of a step: its writes in order, the phase after it, and the number of nulls that it draws.
pub record Move : Type 0 where
  pub writes : List Change
  pub phase : Phase
  pub drawn : ℕ

-- A tree of queries: each answer leads to the next query, and in the end to the step's move.
abbrev pub Asking : Type 0
Asking = Tree Query Reply Move

-- No further query: the step makes these writes, and this is the phase after it.
abbrev pub makes : List Change → Phase → Asking
makes ws p = Leaf record { writes = ws; phase = p; drawn = 0 }

-- ---- answers

-- The tuples of an answer to `Specific` or `Occurs`; none for any other answer.
abbrev pub tuples_of : Reply → List Fact
tuples_of Yes = []
tuples_of No = []
tuples_of (Image ts) = []
tuples_of Nothing = []
tuples_of (Tuples ts) = ts

-- The answer to `Present` is yes.
abbrev pub is_yes : Reply → Bool
is_yes Yes = true
is_yes No = false
is_yes (Image ts) = false
is_yes Nothing = false
is_yes (Tuples ts) = false

-- The image of an answer to `Violation`, if there is one.
abbrev pub image_in : Reply → Option (List Fact)
image_in Yes = None
image_in No = None
image_in (Image ts) = Some ts
image_in Nothing = None
image_in (Tuples ts) = None

-- ---- Start: the update's operation

-- The nulls that an operation names, each with the tuples that hold a null of that outer name.
abbrev pub Holders : Type 0
Holders = List (NullName × List Fact)

-- The null that a named null stands for; the number 0 if it was not looked up.
abbrev pub null_for : Holders → NullName → Datum
null_for holders n = unwrap_or (option_map (λ (e : NullName × List Fact). standing_for e.0 e.1) (find (λ (e : NullName × List Fact). same_datum (Unknown e.0) (Unknown n)) holders)) (Number (pos 0))

-- A value of an operation with its named null resolved.
abbrev pub resolve : Holders → Datum → Datum
resolve holders (Number i) = Number i
resolve holders (Text w) = Text w
resolve holders (Unknown n) = null_for holders n

-- The attempt is refused with null n if no tuple holds it; otherwise it goes on with the rest.
abbrev pub unless_none : NullName → List Fact → Asking → Asking
unless_none n [] rest = makes [] (Ended (Refused n))
unless_none n (t ∷ ts) rest = rest

-- Asks `Occurs` of each null, up to the first with an empty answer, with which the attempt is refused.
abbrev pub find_nulls : List NullName → (Holders → Asking) → Asking
find_nulls [] go = go []
find_nulls (n ∷ ns) go =
    Node (Occurs n.update n.place) (λ a. unless_none n (tuples_of a) (find_nulls ns (λ holders. go ((n, tuples_of a) ∷ holders))))

-- The step of the operation. An insertion writes the tuple if it is not there, a deletion if it is. A replacement rewrites the
-- tuples that hold the null. A mapping is put in force without any query.
abbrev pub start : Operation → Asking
start (Adds t) =
    find_nulls (nulls_in t.values)
    (λ holders. Node (Present (under (resolve holders) t))
    (λ a. if is_yes a then makes [] Look else makes (Insert (under (resolve holders) t) ∷ []) Look))
start (Removes t) =
    find_nulls (nulls_in t.values)
    (λ holders. Node (Present (under (resolve holders) t))
    (λ a. if is_yes a then makes (Delete (under (resolve holders) t) ∷ []) Look else makes [] Look))
start (Replaces n v) =
    Node (Occurs n.update n.place)
    (λ a. unless_none n (tuples_of a) (find_nulls (null_of v)
    (λ holders. makes (rewrite (replacing (standing_for n (tuples_of a)) (resolve holders v)) (tuples_of a)) Look)))
start (Enacts n) = makes (Insert (force n) ∷ []) Look

-- ---- Look: the first violation that the update caused

-- The repair of a violation by deletion, given the distinct tuples of its image: a single one is deleted; if there are several, a
-- person chooses.
abbrev pub negative : ℕ → List Fact → Asking
negative n [] = makes [] Look
negative n (t ∷ []) = makes (Delete t ∷ []) Look
negative n (t ∷ s ∷ ts) = makes [] (Asked (Negative n (t ∷ s ∷ ts)))

-- The repair of a violation of mapping n. Forward, it draws a fresh null for each existential variable, and generates the right
-- atoms in turn; backward, it deletes.
abbrev pub repair : Attempt → Direction → ℕ → Rule → List Fact → Asking
repair P Forward n m image =
    Leaf record {
      writes = [];
      phase = Generate record { mapping = n; binding = binding_of m image ++ fresh_nulls P m.existential; atom = 0 };
      drawn = m.existential;
    }
repair P Backward n m image = negative n (in_order image)

-- The repair of the violation with this image, if there is one; otherwise the rest.
abbrev pub repair_or : Attempt → ℕ → Rule → Option (List Fact) → Asking → Asking
repair_or P n m None rest = rest
repair_or P n m (Some image) rest = repair P (direction_of P.operation) n m image

-- Asks for the first violation of mapping n, and begins its repair; goes on with the rest if there is none.
abbrev pub look_at : Attempt → ℕ → Rule → Asking → Asking
look_at P n m rest = Node (Violation n) (λ a. repair_or P n m (image_in a) rest)

-- Looks at the mappings from number n on, up to the first violation. A mapping that is in force from the start is looked at. If
-- this update or a lower one may have put the mapping in force, it is looked at if it is in force.
abbrev pub look_from : Attempt → ℕ → List Rule → Asking
look_from P n [] = makes [] (Ended Done)
look_from P n (m ∷ ms) =
    if m.since == 0 then look_at P n m (look_from P (suc n) ms)
    else if nat_lt P.number m.since then look_from P (suc n) ms
    else Node (Present (force n)) (λ a. if is_yes a then look_at P n m (look_from P (suc n) ms) else look_from P (suc n) ms)

-- ---- Generate: a right atom's tuple

-- If there is no more specific tuple, the generated one is inserted; otherwise a person chooses.
abbrev pub compared : List Rule → Repair → Fact → List Fact → Asking
compared ms r t [] = makes (Insert t ∷ []) (next_atom ms r)
compared ms r t (c ∷ cs) = makes [] (Asked (Positive r t (c ∷ cs)))

-- The step of a right atom: if its tuple is there, nothing is written; otherwise the more specific tuples are asked for.
abbrev pub generate : List Rule → Repair → Fact → Asking
generate ms r t =
    Node (Present t)
    (λ a. if is_yes a then makes [] (next_atom ms r) else Node (Specific t) (λ b. compared ms r t (tuples_of b)))

-- ---- Asked: the step of an answer that fits

-- Asks `Occurs` of each null, and goes on with all tuples found.
abbrev pub gather : List NullName → (List Fact → Asking) → Asking
gather [] go = go []
gather (n ∷ ns) go = Node (Occurs n.update n.place) (λ a. gather ns (λ ts. go (tuples_of a ++ ts)))

-- Applies the unifier of t and c to every tuple that holds a null which it moves, and to the repair's values.
abbrev pub unify : List Rule → Repair → Fact → Fact → Asking
unify ms r t c =
    gather (moved_nulls t c)
    (λ ts. makes (rewrite (unifier t c) (in_order ts))
    (next_atom ms record { mapping = r.mapping; binding = map (unifier t c) r.binding; atom = r.atom }))

-- The step of an answer that fits. An answer that does not fit is not taken.
abbrev pub answer : List Rule → Question → Choice → Asking
answer ms (Positive r t cs) Expand = makes (Insert t ∷ []) (next_atom ms r)
answer ms (Positive r t cs) (Unify o) = unify ms r t (candidate t cs o)
answer ms (Positive r t cs) (Drop os) = makes [] (Asked (Positive r t cs))
answer ms (Negative n ts) Expand = makes [] (Asked (Negative n ts))
answer ms (Negative n ts) (Unify o) = makes [] (Asked (Negative n ts))
answer ms (Negative n ts) (Drop os) = makes (map Delete (named ts os)) Look

-- A step at a question takes the next answer. Without an answer there is no step.
abbrev pub by_answer : List Rule → Question → Option Choice → Asking
by_answer ms q None = makes [] (Asked q)
by_answer ms q (Some c) = answer ms q c

-- ---- the step

-- The step of each phase, with the next answer if there is one. An attempt that has ended makes no further step.
abbrev pub step_in : List Rule → Attempt → Option Choice → Phase → Asking
step_in ms P c Start = start P.operation
step_in ms P c Look = look_from P 0 ms
step_in ms P c (Generate r) = generate ms r (generated ms r)
step_in ms P c (Asked q) = by_answer ms q c
step_in ms P c (Ended o) = makes [] (Ended o)

-- One step of the attempt.
abbrev pub step : List Rule → Attempt → Option Choice → Asking
step ms P c = step_in ms P c P.phase

-- The attempt after a step: the writes are added, and the step, the nulls drawn and, at a question, the answer are counted. If
-- all B steps are made and the attempt has not ended, it is spent.
abbrev pub moved : ℕ → Attempt → Move → Attempt
moved B P m =
    record {
      number = P.number;
      attempt = P.attempt;
      operation = P.operation;
      phase = if is_some (outcome_in m.phase) || nat_lt (suc P.steps) B then m.phase else Ended Spent;
      own = P.own ++ m.writes;
      steps = suc P.steps;
      nulls = P.nulls + m.drawn;
      taken = if is_some (question_in P.phase) then suc P.taken else P.taken;
    }
