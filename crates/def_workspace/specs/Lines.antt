-- The lines of a log: updates with their numbers, answers, undos and redos, and declarations.
use Rattle.std.specs.Prelude.{ℕ, List}
use Rattle.def_chase.specs.Values.{NullName, Datum, Fact}
use Rattle.def_chase.specs.Mappings.{Rule}
use Rattle.def_chase.specs.Updates.{Choice}

-- Lines refer to unknowns by names: a `NullName` of attempt 0 in a line is a name, with the update that drew the unknown and the
-- place that the unknown has in it.

-- A value of a line: a known one, or the j-th unknown that is new with the line.
pub data Spelled : Type 0 where
  Known : Datum → Spelled
  New : ℕ → Spelled

-- A tuple of a line, which may have new unknowns.
pub record SpelledFact : Type 0 where
  pub relation : ℕ
  pub values : List Spelled

-- The deed of an update: insert tuples; delete tuples; replace an unknown by a value; replace a tuple by another; repair a
-- mapping for these values of the variables on both of its sides; put a mapping in force; or take a mapping away. Mappings are
-- numbered in the order in which they were declared.
pub data Deed : Type 0 where
  Inserts : List SpelledFact → Deed
  Deletes : List Fact → Deed
  Fills : NullName → Datum → Deed
  Swaps : Fact → SpelledFact → Deed
  Fixes : ℕ → List Datum → Deed
  Forces : ℕ → Deed
  Drops : ℕ → Deed

-- An update: its number, the number of steps that each of its ops may make, and its deed.
pub record Update : Type 0 where
  pub number : ℕ
  pub steps : ℕ
  pub deed : Deed

-- The source of a question or of an unknown: the mapping of this number; the hidden mapping by which it is repaired; or the
-- hidden mapping that draws new unknowns.
pub data Source : Type 0 where
  By : ℕ → Source
  Fix : ℕ → Source
  Draw : Source

-- A question, identified by its mapping and, by names, the generated tuple or the tuples of which some must be deleted.
pub record Asked : Type 0 where
  pub source : Source
  pub tuples : List Fact

-- An answer: the choice, with tuples by names, and the question to which it was given.
pub record Given : Type 0 where
  pub choice : Choice
  pub asked : Asked

-- A mapping that is declared, with its name and the names of its variables.
pub record Declared : Type 0 where
  pub name : List ℕ
  pub variables : List (List ℕ)
  pub rule : Rule

-- A line: an update is said; update n gets an answer, or tries again; updates are undone, done again, or lose the answers that
-- they had; or a mapping is declared. Declarations of relations do not matter in this crate.
pub data Line : Type 0 where
  Says : Update → Line
  Answers : ℕ → Given → Line
  Goes : ℕ → Line
  Undoes : List ℕ → Line
  Redoes : List ℕ → Line
  Forgets : List ℕ → Line
  Declares : Declared → Line
