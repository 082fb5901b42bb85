-- A tuple on a line by itself.
use Rattle.std.specs.Prelude.{◌≡◌, ℕ, ◌-◌, ◌^◌, false, List, Result, Ok, IsUtf8, All}
use Rattle.def_chase.specs.Values.{Fact}
use Rattle.def_language.specs.Bytes.{is_line_feed}
use Rattle.def_language.specs.Faults.{Kind}
use Rattle.def_language.specs.Lines.{placed_words}
use Rattle.def_language.specs.Meaning.{fact_of}
use Rattle.def_language.specs.Parts.{fact_at, whole}
use Rattle.def_language.specs.Printing.{tuple_text, written_fact}
use Rattle.def_language.specs.Reading.{◌>>=◌}
use Rattle.def_language.specs.Sessions.{RelationSchema}
use Rattle.def_language.specs.Statements.{WrittenFact}
use Rattle.def_language.specs.Validity.{IsFact}
use Rattle.def_language.specs.Words.{words_at}

-- a tuple of one of the relations, whatever updates its nulls are from
abbrev pub IsTuple : List RelationSchema → Fact → Type 0
IsTuple relations t = IsFact relations (2 ^ 32 - 1) t

-- the fact that the words of a line spell
abbrev pub lone_fact : List ℕ → Result WrittenFact Kind
lone_fact line = placed_words 0 (words_at line) >>= (λ words. whole (fact_at words))

-- the printed form of the tuple is one line of text, and is read as the tuple
pub record IsReadAgain (relations : List RelationSchema) (t : Fact) : Type 0 where
  pub text : IsUtf8 (tuple_text relations false t)
  pub one_line : All (λ b. is_line_feed b ≡ false) (tuple_text relations false t)
  pub read : lone_fact (tuple_text relations false t) ≡ Ok (written_fact relations t)
  pub meant : fact_of relations (written_fact relations t) ≡ Ok t
