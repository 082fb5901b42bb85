-- The questions that people see: the question of each paused update, and what it says about the update's present view.
use Rattle.std.specs.Prelude.{◌≡◌, ℕ, suc, ◌≤◌, false, List, length, filter, Some, is_some, slice_get}
use Rattle.def_machine.specs.Machine.{Machine}
use Rattle.def_machine.specs.Updates.{Update, Session, Settings, view, committed}
use Rattle.def_machine.specs.Standings.{standing, is_paused, question_of}
use Rattle.def_machine.specs.Effects.{Entry}
use Rattle.def_chase.specs.Values.{Fact}
use Rattle.def_chase.specs.Repository.{Change, has}
use Rattle.def_chase.specs.Mappings.{Rule}
use Rattle.def_chase.specs.Specific.{more_specific}
use Rattle.def_chase.specs.Violations.{Scope}
use Rattle.def_chase.specs.Updates.{Choice}
use Rattle.def_steps.specs.Attempts.{Repair, Question, Positive, Negative}
use Rattle.def_steps.specs.Rewriting.{in_order, generated}
use Rattle.def_steps.specs.Questions.{fits}
use Rattle.def_steps.specs.Chase.{caused, caused_chase}
use Rattle.def_steps.specs.Looking.{first_in_force}
use Rattle.def_history.specs.Histories.{IsLegalHistory}
use Rattle.def_history.specs.Admissible.{IsAdmissible}

-- The tuple that the repair generates next is absent from the view, and the candidates are all more specific tuples of the view,
-- at least one.
pub record IsPositive (ms : List Rule) (E : List Fact) (r : Repair) (t : Fact) (cs : List Fact) : Type 0 where
  pub is_generated : t ≡ generated ms r
  pub absent : has E t ≡ false
  pub candidates : cs ≡ filter (λ s. more_specific s t) E
  pub some : 1 ≤ length cs

-- The tuples are the distinct ones, at least two, of the first violation in the view, within the scope, of a mapping in force,
-- and n is that mapping's number.
pub record IsNegative (ms : List Rule) (scope : Scope) (own : List Change) (E : List Fact) (n : ℕ) (ts : List Fact) : Type 0 where
  pub image : List Fact
  pub first : first_in_force scope own 0 ms E ≡ Some (n, image)
  pub distinct : ts ≡ in_order image
  pub several : 2 ≤ length ts

-- The question is true of the view E of an update that has made these own writes.
abbrev pub IsAsked : List Rule → Scope → List Change → List Fact → Question → Type 0
IsAsked ms scope own E (Positive r t cs) = IsPositive ms E r t cs
IsAsked ms scope own E (Negative n ts) = IsNegative ms scope own E n ts

module _ (ms : List Rule) (B : ℕ) where
  -- The machine of the chase with these mappings and this budget, whose attempts look at the violations that they caused.
  abbrev M : Machine
  M = caused_chase ms B

  -- The question of update k + 1, which is u.
  pub record IsQuestion (S : Session M) (us : List (Update M)) (k : ℕ) (u : Update M) (q : Question) : Type 0 where
    -- it is true of the present view, by the violations that the update caused
    pub asked : IsAsked ms (caused u.operation) u.state.own (view M S.base us k) q
    -- the next answer delivered, if there is one, does not fit it
    pub unfit : (c : Choice) → slice_get u.answers u.state.taken ≡ Some c → fits q c ≡ false

  -- The question of update k + 1, which is u: there is one exactly if the update is paused.
  pub record AreQuestions (s : Settings) (S : Session M) (us : List (Update M)) (k : ℕ) (u : Update M) : Type 0 where
    pub paused : is_some (question_of M s (committed M us) (suc k) u) ≡ is_paused (standing M s (committed M us) (suc k) u)
    pub question : (q : Question) → question_of M s (committed M us) (suc k) u ≡ Some q → IsQuestion S us k u q

  -- This holds after every legal history.
  abbrev pub AskOfViews : Type 0
  AskOfViews =
      (s : Settings) (S : Session M) (H : List (Entry M)) (us : List (Update M)) → IsAdmissible ms B S → IsLegalHistory ms B s S H us
      → (k : ℕ) (u : Update M) → slice_get us k ≡ Some u → AreQuestions s S us k u

-- This holds for any mappings and any budget.
abbrev pub QuestionsAreOfViews : Type 0
QuestionsAreOfViews = (ms : List Rule) (B : ℕ) → AskOfViews ms B
