-- One step of an update that is taken whole, and the tuples that it puts into the repository.
use Rattle.std.specs.Prelude.{ℕ, suc, Bool, not, ◌&&◌, List, [], ◌∷◌, filter, Option, Some, None, slice_get}
use Rattle.def_chase.specs.Values.{Datum, Number, Text, Unknown, Fact}
use Rattle.def_chase.specs.Repository.{Change, Insert, Delete, has, apply}
use Rattle.def_chase.specs.Mappings.{Rule, Pattern, image_under, listed}
use Rattle.def_chase.specs.Unifier.{unifier}
use Rattle.def_chase.specs.Queries.{holds_null}
use Rattle.def_chase.specs.Updates.{Operation, Adds, Removes, Replaces, Enacts, Choice, Expand, Unify, Drop}
use Rattle.def_steps.specs.Attempts.{Repair, Question, Positive, Negative, Phase, Start, Look, Generate, Asked, Ended, Attempt}
use Rattle.def_steps.specs.Rewriting.{replacing, standing_for}
use Rattle.def_steps.specs.Questions.{candidate}
use Rattle.def_steps.specs.Steps.{Move}

-- The way of a step to a tuple that it puts. The tuple was handed in; or it is of the right side of the mapping of this number,
-- for this image of the left side; or it comes from a tuple that was there, by this substitution. A step that puts no tuple has
-- the first way.
pub data Way : Type 0 where
  Inserts : Way
  Generates : ℕ → List Fact → Way
  Rewrites : (Datum → Datum) → Way

-- A step: its update, its number in the update, the repository before it, its writes, and its way.
pub record Step : Type 0 where
  pub update : ℕ
  pub step : ℕ
  pub before : List Fact
  pub writes : List Change
  pub way : Way

-- A step puts a tuple that is absent before it and present after it.
abbrev pub puts : Step → Fact → Bool
puts s t = not (has s.before t) && has (apply s.before s.writes) t

-- The tuples of the insertions among the writes, in turn.
abbrev pub inserted : List Change → List Fact
inserted [] = []
inserted (Insert t ∷ ws) = t ∷ inserted ws
inserted (Delete t ∷ ws) = inserted ws

-- The tuples of the deletions among the writes, in turn.
abbrev pub deleted : List Change → List Fact
deleted [] = []
deleted (Insert t ∷ ws) = deleted ws
deleted (Delete t ∷ ws) = t ∷ deleted ws

-- The left atoms of a mapping, if there is one.
abbrev pub left_atoms : Option Rule → List Pattern
left_atoms None = []
left_atoms (Some m) = m.left

-- The image of the violation under repair, as earlier unifications of this repair have left it.
abbrev pub image_of : List Rule → ℕ → List Datum → List Fact
image_of ms n values = image_under (listed values) (left_atoms (slice_get ms n))

-- The value in E that a value of an operation stands for: a named null stands for the first null in E with its outer name.
abbrev pub stands_for : List Fact → Datum → Datum
stands_for E (Number i) = Number i
stands_for E (Text w) = Text w
stands_for E (Unknown n) = standing_for n (filter (holds_null n.update n.place) E)

-- The way of the first step of an operation over E.
abbrev pub way_of_start : List Fact → Operation → Way
way_of_start E (Adds t) = Inserts
way_of_start E (Removes t) = Inserts
way_of_start E (Replaces n v) = Rewrites (replacing (stands_for E (Unknown n)) (stands_for E v))
way_of_start E (Enacts n) = Inserts

-- The way of the step of an answer to a question about a generated tuple.
abbrev pub way_of_answer : List Rule → Repair → Fact → List Fact → Option Choice → Way
way_of_answer ms r t cs None = Generates r.mapping (image_of ms r.mapping r.binding)
way_of_answer ms r t cs (Some Expand) = Generates r.mapping (image_of ms r.mapping r.binding)
way_of_answer ms r t cs (Some (Unify o)) = Rewrites (unifier t (candidate t cs o))
way_of_answer ms r t cs (Some (Drop os)) = Generates r.mapping (image_of ms r.mapping r.binding)

abbrev pub way_of_question : List Rule → Question → Option Choice → Way
way_of_question ms (Positive r t cs) c = way_of_answer ms r t cs c
way_of_question ms (Negative n ts) c = Inserts

-- The way of a step over E in a phase, with the answer that it takes, if it takes one.
abbrev pub way_in : List Rule → List Fact → Operation → Option Choice → Phase → Way
way_in ms E op c Start = way_of_start E op
way_in ms E op c Look = Inserts
way_in ms E op c (Generate r) = Generates r.mapping (image_of ms r.mapping r.binding)
way_in ms E op c (Asked q) = way_of_question ms q c
way_in ms E op c (Ended o) = Inserts

-- The step over D, with this answer and this move.
abbrev pub step_by : List Rule → List Fact → Attempt → Option Choice → Move → Step
step_by ms D P c m =
    record {
      update = P.number;
      step = suc P.steps;
      before = apply D P.own;
      writes = m.writes;
      way = way_in ms (apply D P.own) P.operation c P.phase;
    }
