-- The truth of reasons: the base has the tuple, or the step puts the tuple from the tuples that the reason names.
use Rattle.std.specs.Prelude.{◌≡◌, ℕ, ◌≤◌, nat_lt, Bool, true, List, Some, slice_get}
use Rattle.std.specs.List.{list_all, AllByRecursion}
use Rattle.def_chase.specs.Values.{Datum, Fact, under}
use Rattle.def_chase.specs.Repository.{has}
use Rattle.def_chase.specs.Mappings.{Slot, Var, Const, Pattern, Rule, Binding, fact_under, image_under, all_in}
use Rattle.def_chase.specs.Laws.{HaveNoNulls}
use Rattle.def_steps.specs.Chase.{every}
use Rattle.def_steps.specs.Serial.{Request, turns_of}
use Rattle.def_provenance.specs.Puts.{Rewrites, Step, puts, deleted}
use Rattle.def_provenance.specs.Courses.{serial_steps}
use Rattle.def_provenance.specs.Reasons.{How, FromBase, Inserted, Generated, Rewritten, Reason, reason_at, explanation}

-- Mapping n generates the tuple from an image in D: under one binding the image is its left side, and the tuple one of its right
-- atoms.
pub record IsGenerated (ms : List Rule) (n : ℕ) (D image : List Fact) (t : Fact) : Type 0 where
  pub mapping : Rule
  pub named : slice_get ms n ≡ Some mapping
  pub binding : Binding
  pub is_image : image_under binding mapping.left ≡ image
  pub present : all_in D image ≡ true
  pub place : ℕ
  pub atom : Pattern
  pub on_the_right : slice_get mapping.right place ≡ Some atom
  pub is_tuple : fact_under binding atom ≡ t

-- The step rewrites by a substitution that takes a tuple to another. It deletes that tuple, which stands before it.
pub record IsRewritten (s : Step) (from t : Fact) : Type 0 where
  pub by : Datum → Datum
  pub is_way : s.way ≡ Rewrites by
  pub present : has s.before from ≡ true
  pub gone : has (deleted s.writes) from ≡ true
  pub becomes : under by from ≡ t

-- The reason for a tuple is true of this step.
abbrev pub IsTrueAt : List Rule → Step → Fact → How → Type 0
IsTrueAt ms s t FromBase = ⊥
IsTrueAt ms s t (Inserted u k) = Unit {0}
IsTrueAt ms s t (Generated u k n image) = IsGenerated ms n s.before image t
IsTrueAt ms s t (Rewritten u k from) = IsRewritten s from t

-- One of the steps puts the tuple, the reason is the one at this step, with its numbers, and it is true of the step.
pub record IsPutBy (ms : List Rule) (ss : List Step) (t : Fact) (how : How) : Type 0 where
  pub place : ℕ
  pub step : Step
  pub there : slice_get ss place ≡ Some step
  pub put : puts step t ≡ true
  pub said : (reason_at step t).how ≡ how
  pub true_there : IsTrueAt ms step t how

-- A reason is true of a run with these steps over the base D: the base has the tuple, or a step put it as the reason says.
abbrev pub IsTrueBy : List Rule → List Fact → List Step → Fact → How → Type 0
IsTrueBy ms D ss t FromBase = has D t ≡ true
IsTrueBy ms D ss t how = IsPutBy ms ss t how

abbrev pub IsTrue : List Rule → List Fact → List Step → Reason → Type 0
IsTrue ms D ss r = IsTrueBy ms D ss r.tuple r.how

-- The term is no variable from number n on.
abbrev pub is_below : ℕ → Slot → Bool
is_below n (Var v) = nat_lt v n
is_below n (Const d) = true

-- The variables of the left side are numbered first.
abbrev pub IsNumbered : Rule → Type 0
IsNumbered m = list_all (λ a. list_all (is_below m.universal) a.terms) m.left ≡ true

-- Every reason of an explanation is true of the serial machine's run, if the variables of left sides are numbered first and no
-- mapping has a null among its constants.
abbrev pub ReasonsAreTrue : Type 0
ReasonsAreTrue =
    (ms : List Rule) (B : ℕ) (D : List Fact) (rs : List Request) (t : Fact) (reasons : List Reason) → 1 ≤ B → HaveNoNulls ms → AllByRecursion IsNumbered ms
    → explanation ms B D rs t ≡ Some reasons → AllByRecursion (IsTrue ms D (serial_steps every ms B D (turns_of ms B rs))) reasons
