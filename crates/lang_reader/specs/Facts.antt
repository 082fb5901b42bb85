-- A fact as a text by itself.
use Rattle.std.specs.Prelude.{◌≡◌, ℕ, List, Option, Some, None, Result, Ok, Err, IsUtf8}
use Rattle.base_types.specs.Meanings.{fact_of as tuple_meant}
use Rattle.def_language.specs.Faults.{Kind}
use Rattle.def_language.specs.Lines.{placed_words}
use Rattle.def_language.specs.Meaning.{fact_of}
use Rattle.def_language.specs.Parts.{fact_at, whole}
use Rattle.def_language.specs.Reading.{◌>>=◌}
use Rattle.def_language.specs.Sessions.{RelationSchema}
use Rattle.def_language.specs.Statements.{WrittenFact}
use Rattle.def_language.specs.Words.{words_at}
use Rattle.def_chase.specs.Values.{Fact}
use Rattle.lang_reader.specs.declared.tuples.TupleText.{TupleText}
use Rattle.lang_reader.specs.declared.tuples.TupleText.TheVariants.{Malformed, Unknown, Tuple}
use Rattle.lang_reader.specs.Places.{IsOneLine}

-- the fact that the words of a line spell
abbrev pub fact_on : List ℕ → Result WrittenFact Kind
fact_on line = placed_words 0 (words_at line) >>= (λ words. whole (fact_at words))

-- A text spells a fact: it is UTF-8 and one line, and its words are the fact's. Blanks and a comment may stand around.
pub record SpellsFact (text : List ℕ) (fact : WrittenFact) : Type 0 where
  pub utf8 : IsUtf8 text
  pub one_line : IsOneLine text
  pub words : fact_on text ≡ Ok fact

-- the meaning of the text over the relations: no fact, a fact that does not fit them, or a tuple
abbrev pub Says : List RelationSchema → List ℕ → TupleText → Type 0
Says relations text Malformed = (fact : WrittenFact) → SpellsFact text fact → ⊥
Says relations text Unknown = (fact : WrittenFact) × SpellsFact text fact × (kind : Kind) × (fact_of relations fact ≡ Err kind)
Says relations text (Tuple t) = (fact : WrittenFact) × SpellsFact text fact × (fact_of relations fact ≡ Ok (tuple_meant t))

-- the tuple of a fact over relations, if the fact fits them
abbrev pub known_fact : Result Fact Kind → Option Fact
known_fact (Ok t) = Some t
known_fact (Err kind) = None
