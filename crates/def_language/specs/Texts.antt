-- Statements written out directly: the same text as their words laid out on a line.
use Rattle.std.specs.Prelude.{ℕ, ◌≤◌, false, List, [], ◌∷◌, ◌++◌, length, codes}
use Rattle.std.specs.List.{AllByRecursion}
use Rattle.std.specs.Fmt.{decimal, signed_decimal}
use Rattle.def_language.specs.Names.{Name}
use Rattle.def_language.specs.Statements.{WrittenFact, WrittenTerm, Variable, Constant, WrittenAtom, WrittenMapping, WrittenOperation, InsertFact, DeleteFact, ReplaceNull, AddMapping, WrittenChoice, ExpandFact, UnifyFact, DeleteFacts, Statement, Header, Relation, Mapping, Base, Update, Answer, End}
use Rattle.def_language.specs.Layout.{null_text}
use Rattle.def_language.specs.Printing.{value_text, joined_text}

-- NAME(..)
abbrev pub applied_text : Name → List ℕ → List ℕ
applied_text n inside = n ++ (40 ∷ (inside ++ 41 ∷ []))

abbrev pub fact_text : WrittenFact → List ℕ
fact_text fact = applied_text fact.relation (joined_text (value_text false) fact.values)

abbrev pub term_text : WrittenTerm → List ℕ
term_text (Variable n) = n
term_text (Constant d) = value_text false d

abbrev pub atom_text : WrittenAtom → List ℕ
atom_text atom = applied_text atom.relation (joined_text term_text atom.terms)

-- NAME: LEFT -> RIGHT
abbrev pub sides_text : WrittenMapping → List ℕ
sides_text m = m.name ++ (codes ": " ++ (joined_text atom_text m.left ++ (codes " -> " ++ joined_text atom_text m.right)))

abbrev pub operation_text : WrittenOperation → List ℕ
operation_text (InsertFact fact) = codes "insert " ++ fact_text fact
operation_text (DeleteFact fact) = codes "delete " ++ fact_text fact
operation_text (ReplaceNull n d) = codes "replace " ++ (null_text n.update n.place ++ (codes " with " ++ value_text false d))
operation_text (AddMapping m) = codes "mapping " ++ sides_text m

abbrev pub choice_text : WrittenChoice → List ℕ
choice_text ExpandFact = codes "expand"
choice_text (UnifyFact fact) = codes "unify " ++ fact_text fact
choice_text (DeleteFacts facts) = codes "delete " ++ joined_text fact_text facts

abbrev pub statement_text : Statement → List ℕ
statement_text (Header format) = codes "youtopia " ++ decimal format
statement_text (Relation n columns) = codes "relation " ++ (n ++ (32 ∷ signed_decimal columns))
statement_text (Mapping m) = codes "mapping " ++ sides_text m
statement_text (Base fact) = codes "base " ++ fact_text fact
statement_text (Update label curator operation) = codes "update " ++ (label ++ (32 ∷ (curator ++ (32 ∷ operation_text operation))))
statement_text (Answer label choice) = codes "answer " ++ (label ++ (32 ∷ choice_text choice))
statement_text End = codes "end"

-- ---- the statements of which this holds: facts, atoms, sides and lists have a member

abbrev pub HasValue : WrittenFact → Type 0
HasValue fact = 1 ≤ length fact.values

abbrev pub HasTerm : WrittenAtom → Type 0
HasTerm atom = 1 ≤ length atom.terms

abbrev pub HasAtoms : List WrittenAtom → Type 0
HasAtoms atoms = (1 ≤ length atoms) × AllByRecursion HasTerm atoms

abbrev pub HasSides : WrittenMapping → Type 0
HasSides m = HasAtoms m.left × HasAtoms m.right

abbrev pub OperationHasMembers : WrittenOperation → Type 0
OperationHasMembers (InsertFact fact) = HasValue fact
OperationHasMembers (DeleteFact fact) = HasValue fact
OperationHasMembers (ReplaceNull n d) = Unit {0}
OperationHasMembers (AddMapping m) = HasSides m

abbrev pub ChoiceHasMembers : WrittenChoice → Type 0
ChoiceHasMembers ExpandFact = Unit {0}
ChoiceHasMembers (UnifyFact fact) = HasValue fact
ChoiceHasMembers (DeleteFacts facts) = (1 ≤ length facts) × AllByRecursion HasValue facts

abbrev pub HasMembers : Statement → Type 0
HasMembers (Mapping m) = HasSides m
HasMembers (Base fact) = HasValue fact
HasMembers (Update label curator operation) = OperationHasMembers operation
HasMembers (Answer label choice) = ChoiceHasMembers choice
HasMembers _ = Unit {0}
