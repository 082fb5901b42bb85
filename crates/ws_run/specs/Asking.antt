-- Questions as people see them, and the answers that fit them.
use Rattle.std.specs.Prelude.{◌≡◌, ℕ, Bool, true, false, List, [], ◌∷◌, map, Option, Some, None}
use Rattle.std.specs.Option.{option_map}
use Rattle.base_types.specs.Contents.{facts_of}
use Rattle.chase_question.specs.Inquiries.{Inquiry, PositiveInquiry, NegativeInquiry}
use Rattle.def_chase.specs.Values.{Fact, outer}
use Rattle.def_chase.specs.Updates.{Choice, Expand, Unify, Drop}
use Rattle.def_workspace.specs.Lines.{Asked, Given}
use Rattle.def_workspace.specs.Names.{Names, fact_named}
use Rattle.def_workspace.specs.Runs.{Active, source_at, same_asked, called, some_called}
use Rattle.ws_lines.specs.Meanings.{asked_of}
use Rattle.ws_run.specs.declared.halts.Question.{Question as QuestionTold}

-- The question by names, if there is its mapping.
abbrev pub asked_in : List Active → Names → Inquiry → Option Asked
asked_in as' ns (PositiveInquiry n t cs) = option_map (λ s. record { source = s; tuples = fact_named ns t ∷ [] }) (source_at as' n)
asked_in as' ns (NegativeInquiry n ts) = option_map (λ s. record { source = s; tuples = map (fact_named ns) ts }) (source_at as' n)

-- The question is the one that was answered.
abbrev pub is_asked : Option Asked → Asked → Bool
is_asked None b = false
is_asked (Some a) b = same_asked a b

-- The choice as the machine takes it, if it fits.
abbrev pub choice_in : Names → Inquiry → Choice → Option Choice
choice_in ns (PositiveInquiry n t cs) Expand = Some Expand
choice_in ns (PositiveInquiry n t cs) (Unify o) = option_map (λ u. Unify (outer u)) (called ns cs o)
choice_in ns (PositiveInquiry n t cs) (Drop os) = None
choice_in ns (NegativeInquiry n ts) Expand = None
choice_in ns (NegativeInquiry n ts) (Unify o) = None
choice_in ns (NegativeInquiry n ts) (Drop os) = option_map (λ us. Drop (map outer us)) (some_called ns ts os)

abbrev pub choice_if : Bool → Names → Inquiry → Choice → Option Choice
choice_if true ns i c = choice_in ns i c
choice_if false ns i c = None

-- The choice of an answer that was given to this question, if it fits.
abbrev pub fitting_in : List Active → Names → Inquiry → Option Given → Option Choice
fitting_in as' ns i None = None
fitting_in as' ns i (Some g) = choice_if (is_asked (asked_in as' ns i) g.asked) ns i g.choice

-- The tuples that the question is about: the candidates, or those of which some must go.
abbrev pub tuples_in : Inquiry → List Fact
tuples_in (PositiveInquiry n t cs) = cs
tuples_in (NegativeInquiry n ts) = ts

-- The question is told by names, if there is its mapping.
abbrev pub IsTold : List Active → Names → Inquiry → Option QuestionTold → Type 0
IsTold as' ns i None = asked_in as' ns i ≡ None
IsTold as' ns i (Some told) = (asked_in as' ns i ≡ Some (asked_of told.asked)) × (facts_of told.candidates ≡ map (fact_named ns) (tuples_in i))
