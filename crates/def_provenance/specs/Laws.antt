-- Laws of notes and of the steps of the serial machine.
use Rattle.std.specs.Prelude.{◌≡◌, ℕ, ◌≤◌, Bool, true, if◌then◌else◌, List, [], ◌∷◌, reverse, find, Some}
use Rattle.std.specs.List.{AllByRecursion, list_any}
use Rattle.def_chase.specs.Values.{Fact, same_fact}
use Rattle.def_chase.specs.Repository.{has}
use Rattle.def_chase.specs.Mappings.{Rule, AllHold}
use Rattle.def_chase.specs.Laws.{HaveNoNulls}
use Rattle.def_steps.specs.Chase.{every, caused}
use Rattle.def_steps.specs.Serial.{Request, turns_in, turns_of}
use Rattle.def_steps.specs.Timely.{IsTimely}
use Rattle.def_provenance.specs.Puts.{Step, puts}
use Rattle.def_provenance.specs.Courses.{serial_steps}
use Rattle.def_provenance.specs.Reasons.{Reason, premises, reason_at, rooted, explained}
use Rattle.def_provenance.specs.Notes.{notes_of, told_by}

-- The notes of steps determine the reasons for tuples after these steps.
abbrev pub NotesTell : Type 0
NotesTell = (ss : List Step) (sought : List Fact) → told_by (reverse (notes_of ss)) sought ≡ explained (reverse ss) sought

-- In a timely session over a base in which the mappings in force hold, the steps are the same whether all violations count or
-- only those that the update caused, if no mapping has a null among its constants.
abbrev pub StepsAgree : Type 0
StepsAgree =
    (ms : List Rule) (B : ℕ) (D : List Fact) (rs : List Request) → 1 ≤ B → HaveNoNulls ms → IsTimely ms D rs → AllHold ms D
    → serial_steps caused ms B D (turns_in caused ms B 1 rs) ≡ serial_steps every ms B D (turns_of ms B rs)

-- One of the reasons is for the tuple.
abbrev pub is_told : List Reason → Fact → Bool
is_told rs t = list_any (λ (r : Reason). same_fact t r.tuple) rs

-- Each reason rests on tuples whose reasons stand after it. So none rests on itself, and each walk ends at a reason that rests on
-- nothing: a tuple of the base, or an insertion.
abbrev pub AreGrounded : List Reason → Type 0
AreGrounded [] = Unit {0}
AreGrounded (r ∷ rs) = AllByRecursion (λ t. is_told rs t ≡ true) (premises r.how) × AreGrounded rs

-- The reason for a tuple at its origin, which is the last of these steps that puts it. The steps are listed last first. A tuple
-- that no step puts is of the base.
abbrev pub origin : List Step → Fact → Reason
origin [] t = rooted t
origin (s ∷ earlier) t = if puts s t then reason_at s t else origin earlier t

-- Whatever the steps were, the reasons for the tuples sought after them are grounded, and the first reason for each tuple sought
-- is the one at its origin.
pub record ReasonsAreGrounded (ss : List Step) (sought : List Fact) : Type 0 where
  pub grounded : AreGrounded (explained ss sought)
  pub told : (t : Fact) → has sought t ≡ true → is_told (explained ss sought) t ≡ true
  pub first : (t : Fact) → has sought t ≡ true → find (λ (r : Reason). same_fact t r.tuple) (explained ss sought) ≡ Some (origin ss t)

abbrev pub ExplanationsAreGrounded : Type 0
ExplanationsAreGrounded = (ss : List Step) (sought : List Fact) → ReasonsAreGrounded ss sought
