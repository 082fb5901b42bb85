-- A choice as a text by itself, as it stands after the label of an answer.
use Rattle.std.specs.Prelude.{◌≡◌, ℕ, List, [], ◌∷◌, Option, Some, None, Result, Ok, IsUtf8, option_map, option_and_then}
use Rattle.base_types.specs.Meanings.{choice_of}
use Rattle.def_language.specs.Faults.{Kind}
use Rattle.def_language.specs.Forms.{choice_at}
use Rattle.def_language.specs.Lines.{placed_words}
use Rattle.def_language.specs.Meaning.{fact_of}
use Rattle.def_language.specs.Reading.{◌>>=◌}
use Rattle.def_language.specs.Sessions.{RelationSchema}
use Rattle.def_language.specs.Statements.{WrittenFact, WrittenChoice, ExpandFact, UnifyFact, DeleteFacts}
use Rattle.def_language.specs.Words.{words_at}
use Rattle.def_chase.specs.Updates.{Choice, Expand, Unify, Drop}
use Rattle.def_chase.specs.Values.{Fact}
use Rattle.lang_reader.specs.Facts.{known_fact}
use Rattle.lang_reader.specs.Places.{IsOneLine}
use Rattle.lang_forms.specs.declared.raw.RawChoice.{RawChoice}
use Rattle.lang_forms.specs.Statements.{choice_of as choice_meant}
use Rattle.audit_claims.specs.declared.choices.ChoiceText.{ChoiceText}
use Rattle.audit_claims.specs.declared.choices.ChoiceText.TheVariants as text

-- the choice that the words of a line spell
abbrev pub choice_on : List ℕ → Result WrittenChoice Kind
choice_on line = placed_words 0 (words_at line) >>= (λ words. choice_at words)

-- The text is UTF-8 and one line, and its words spell the choice. Blanks and a comment may stand around them.
pub record SpellsChoice (text : List ℕ) (choice : WrittenChoice) : Type 0 where
  pub utf8 : IsUtf8 text
  pub one_line : IsOneLine text
  pub words : choice_on text ≡ Ok choice

-- the tuples of facts over relations, if all facts fit the relations
abbrev pub known_facts : List RelationSchema → List WrittenFact → Option (List Fact)
known_facts relations [] = Some []
known_facts relations (fact ∷ facts) =
    option_and_then (λ t. option_map (λ ts. t ∷ ts) (known_facts relations facts)) (known_fact (fact_of relations fact))

-- the choice over relations, if its facts fit the relations
abbrev pub known_choice : List RelationSchema → WrittenChoice → Option Choice
known_choice relations ExpandFact = Some Expand
known_choice relations (UnifyFact fact) = option_map Unify (known_fact (fact_of relations fact))
known_choice relations (DeleteFacts facts) = option_map Drop (known_facts relations facts)

-- What the text says over the relations: no choice, one whose facts do not fit them, or this one.
abbrev pub SaysChoice : List RelationSchema → List ℕ → ChoiceText → Type 0
SaysChoice relations t text.Malformed = (choice : WrittenChoice) → SpellsChoice t choice → ⊥
SaysChoice relations t text.Unknown = (choice : WrittenChoice) × SpellsChoice t choice × (known_choice relations choice ≡ None)
SaysChoice relations t (text.Choice c) = (choice : WrittenChoice) × SpellsChoice t choice × (known_choice relations choice ≡ Some (choice_of c))

-- The result is the choice that was read, or None if none was.
abbrev pub IsRead : Option RawChoice → Result WrittenChoice Kind → Type 0
IsRead None read = (choice : WrittenChoice) → read ≡ Ok choice → ⊥
IsRead (Some written) read = read ≡ Ok (choice_meant written)
