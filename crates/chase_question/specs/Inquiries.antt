-- Questions as people see them, and the meaning of the program's questions.
use Rattle.std.specs.Prelude.{ℕ, Bool, List, map}
use Rattle.def_chase.specs.Values.{Fact}
use Rattle.def_chase.specs.Updates.{Choice}
use Rattle.base_types.specs.Meanings.{fact_of}
use Rattle.def_steps.specs.Attempts.{Question, Positive, Negative}
use Rattle.def_steps.specs.Questions.{fits_positive, fits_negative}
use Rattle.chase_question.specs.declared.questions.Question.{Question as QuestionOfProgram}
use Rattle.chase_question.specs.declared.questions.Question.TheVariants.{Positive as PositiveQuestion, Negative as NegativeQuestion}

-- A question as people see it. A positive one has the number of the violated mapping, the generated tuple and the candidates; a
-- negative one has the number and the different tuples of the violation's image.
pub data Inquiry : Type 0 where
  PositiveInquiry : ℕ → Fact → List Fact → Inquiry
  NegativeInquiry : ℕ → List Fact → Inquiry

-- A question of the chase as people see it: of the repair in hand only the mapping's number.
abbrev pub inquiry_in : Question → Inquiry
inquiry_in (Positive r t cs) = PositiveInquiry r.mapping t cs
inquiry_in (Negative n ts) = NegativeInquiry n ts

-- The question that a `Question` stands for.
abbrev pub inquiry_of : QuestionOfProgram → Inquiry
inquiry_of (PositiveQuestion n t cs) = PositiveInquiry n (fact_of t) (map fact_of cs.items)
inquiry_of (NegativeQuestion n ts) = NegativeInquiry n (map fact_of ts.items)

-- The answer fits the question. This does not depend on the mapping, the repair or the generated tuple.
abbrev pub fits_inquiry : Inquiry → Choice → Bool
fits_inquiry (PositiveInquiry n t cs) c = fits_positive cs c
fits_inquiry (NegativeInquiry n ts) c = fits_negative ts c
