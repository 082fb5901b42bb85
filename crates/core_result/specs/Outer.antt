-- Outer forms: nulls without their attempts.
use Rattle.std.specs.Prelude.{map}
use Rattle.def_chase.specs.Values.{outer}
use Rattle.chase_question.specs.Inquiries.{Inquiry, PositiveInquiry, NegativeInquiry}

-- The question in outer form, as people see it.
abbrev pub outer_inquiry : Inquiry → Inquiry
outer_inquiry (PositiveInquiry n t cs) = PositiveInquiry n (outer t) (map outer cs)
outer_inquiry (NegativeInquiry n ts) = NegativeInquiry n (map outer ts)
