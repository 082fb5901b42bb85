-- The statements of a session as they are written, with the names of relations and variables.
use Rattle.std.specs.Prelude.{ℕ, ℤ, List}
use Rattle.def_chase.specs.Values.{NullName, Datum}
use Rattle.def_language.specs.Names.{Name}

-- a tuple: the relation's name and the values by column
pub record WrittenFact : Type 0 where
  pub relation : Name
  pub values : List Datum

-- a term of an atom: a variable by its name, or a constant
pub data WrittenTerm : Type 0 where
  Variable : Name → WrittenTerm
  Constant : Datum → WrittenTerm

pub record WrittenAtom : Type 0 where
  pub relation : Name
  pub terms : List WrittenTerm

pub record WrittenMapping : Type 0 where
  pub name : Name
  pub left : List WrittenAtom
  pub right : List WrittenAtom

-- the operation of an update
pub data WrittenOperation : Type 0 where
  InsertFact : WrittenFact → WrittenOperation
  DeleteFact : WrittenFact → WrittenOperation
  ReplaceNull : NullName → Datum → WrittenOperation
  AddMapping : WrittenMapping → WrittenOperation

-- the choice of an answer
pub data WrittenChoice : Type 0 where
  ExpandFact : WrittenChoice
  UnifyFact : WrittenFact → WrittenChoice
  DeleteFacts : List WrittenFact → WrittenChoice

-- A statement: the header with its format, a relation with its name and columns, a mapping, a tuple of the base, an
-- update with its label, curator and operation, an answer with the label of its update, or the end.
pub data Statement : Type 0 where
  Header : ℕ → Statement
  Relation : Name → ℤ → Statement
  Mapping : WrittenMapping → Statement
  Base : WrittenFact → Statement
  Update : Name → Name → WrittenOperation → Statement
  Answer : Name → WrittenChoice → Statement
  End : Statement
