-- The forward repair in hand, as its mapping and the values of its variables, and the unifier of an answer to its question.
use Rattle.std.specs.Prelude.{ℕ, List, Option, Some, None}
use Rattle.def_chase.specs.Values.{Datum, Fact}
use Rattle.def_chase.specs.Unifier.{unifier}
use Rattle.def_steps.specs.Attempts.{Question, Positive, Negative, Phase, Start, Look, Generate, Asked, Ended}
use Rattle.def_steps.specs.Questions.{candidate}

-- The number of a mapping, and the values of its variables.
pub record Bound : Type 0 where
  pub mapping : ℕ
  pub values : List Datum

-- The mapping and the values of the repair whose tuple the question is about.
abbrev pub bound_at : Question → Option Bound
bound_at (Positive r t cs) = Some record { mapping = r.mapping; values = r.binding }
bound_at (Negative n ts) = None

-- The mapping and the values of the repair in hand, if it is a forward one.
abbrev pub bound_in : Phase → Option Bound
bound_in Start = None
bound_in Look = None
bound_in (Generate r) = Some record { mapping = r.mapping; values = r.binding }
bound_in (Asked q) = bound_at q
bound_in (Ended o) = None

-- The unifier of the generated tuple and the candidate of this outer form; it moves nothing if there is no such question.
abbrev pub unifier_at : Question → Fact → Datum → Datum
unifier_at (Positive r t cs) o = unifier t (candidate t cs o)
unifier_at (Negative n ts) o = λ d. d

abbrev pub unifier_in : Phase → Fact → Datum → Datum
unifier_in Start o = λ d. d
unifier_in Look o = λ d. d
unifier_in (Generate r) o = λ d. d
unifier_in (Asked q) o = unifier_at q o
unifier_in (Ended o) t = λ d. d
