-- The statements that have a spelling: some words say them, where they may stand.
use Rattle.std.specs.Prelude.{◌≡◌, ℕ, ◌≤◌, ◌⊎◌, length}
use Rattle.std.specs.List.{AllByRecursion}
use Rattle.def_chase.specs.Values.{Datum, Number, Text, Unknown}
use Rattle.def_language.specs.Statements.{WrittenFact, WrittenTerm, Variable, Constant, WrittenAtom, WrittenMapping, WrittenOperation, InsertFact, DeleteFact, ReplaceNull, AddMapping, WrittenChoice, ExpandFact, UnifyFact, DeleteFacts, Statement, Header, Relation, Mapping, Base, Update, Answer, End}
use Rattle.def_language.specs.Forms.{Section, Beginning, rank, section_of}

-- a null is named by its outer form
abbrev pub IsOuter : Datum → Type 0
IsOuter (Number z) = Unit {0}
IsOuter (Text t) = Unit {0}
IsOuter (Unknown n) = n.attempt ≡ 0

-- a variable, or a constant that is no null
abbrev pub IsTerm : WrittenTerm → Type 0
IsTerm (Variable n) = Unit {0}
IsTerm (Constant (Number z)) = Unit {0}
IsTerm (Constant (Text t)) = Unit {0}
IsTerm (Constant (Unknown n)) = ⊥

-- at least one value
abbrev pub IsWrittenFact : WrittenFact → Type 0
IsWrittenFact fact = (1 ≤ length fact.values) × AllByRecursion IsOuter fact.values

-- at least one term
abbrev pub IsWrittenAtom : WrittenAtom → Type 0
IsWrittenAtom atom = (1 ≤ length atom.terms) × AllByRecursion IsTerm atom.terms

abbrev pub IsWrittenMapping : WrittenMapping → Type 0
IsWrittenMapping m = AllByRecursion IsWrittenAtom m.left × AllByRecursion IsWrittenAtom m.right

-- only format 2 adds mappings
abbrev pub IsWrittenOperation : ℕ → WrittenOperation → Type 0
IsWrittenOperation format (InsertFact fact) = IsWrittenFact fact
IsWrittenOperation format (DeleteFact fact) = IsWrittenFact fact
IsWrittenOperation format (ReplaceNull n d) = IsOuter (Unknown n) × IsOuter d
IsWrittenOperation format (AddMapping m) = (format ≡ 2) × IsWrittenMapping m

abbrev pub IsWrittenChoice : WrittenChoice → Type 0
IsWrittenChoice ExpandFact = Unit {0}
IsWrittenChoice (UnifyFact fact) = IsWrittenFact fact
IsWrittenChoice (DeleteFacts facts) = (1 ≤ length facts) × AllByRecursion IsWrittenFact facts

-- the statement has a spelling in a session of the format
abbrev pub IsSayable : ℕ → Statement → Type 0
IsSayable format (Header f) = (f ≡ 1) ⊎ (f ≡ 2)
IsSayable format (Relation n columns) = Unit {0}
IsSayable format (Mapping m) = IsWrittenMapping m
IsSayable format (Base fact) = IsWrittenFact fact
IsSayable format (Update label curator operation) = IsWrittenOperation format operation
IsSayable format (Answer label choice) = IsWrittenChoice choice
IsSayable format End = Unit {0}

-- The statement may stand in a section: the header only at the beginning, any other statement as long as its own section is not
-- over.
abbrev pub MayStand : Section → Statement → Type 0
MayStand Beginning (Header format) = Unit {0}
MayStand Beginning statement = ⊥
MayStand section (Header format) = ⊥
MayStand section statement = rank section ≤ rank (section_of statement)
