-- The words of a statement are read as the statement.
use Rattle.std.proofs.Common.{◌≡◌, ℕ, ◌≤◌, ◌⊎◌, inl, inr, Bool, true, List, [], ◌∷◌, ◌++◌, length, refl, sym, ap, ◌∙◌, append_assoc, append-nil, arith}
use Rattle.std.specs.Prelude.{Result, Ok, codes, nat_le}
use Rattle.std.specs.List.{AllByRecursion}
use Rattle.std.proofs.lemmas.Bool.Decides.{nat_tests}
use Rattle.def_chase.specs.Values.{Datum, Number, Text, Unknown}
use Rattle.def_language.specs.declared.Wanted.TheVariants as missing
use Rattle.def_language.specs.Words.{Word, name, number, closes, comma, arrow}
use Rattle.def_language.specs.Faults.{Kind}
use Rattle.def_language.specs.Reading.{many}
use Rattle.def_language.specs.Names.{Name}
use Rattle.def_language.specs.Statements.{WrittenFact, WrittenTerm, Variable, Constant, WrittenAtom, WrittenMapping, WrittenOperation, InsertFact, DeleteFact, ReplaceNull, AddMapping, WrittenChoice, ExpandFact, UnifyFact, DeleteFacts, Statement, Header, Relation, Mapping, Base, Update, Answer, End}
use Rattle.def_language.specs.Grammar.{value_word, term_word, separated, one_word, fact_words, atom_words, mapping_words, operation_words, choice_words, statement_words}
use Rattle.def_language.specs.Parts.{name_at, open_at, colon_at, end_at, whole, value_of, term_of, item_at, items_at, fact_at, atom_at, left_atom, right_atom, last_fact, left_at, right_at, mapping_at, facts_at}
use Rattle.def_language.specs.Forms.{Section, Beginning, rank, header_at, relation_at, replace_at, operation_at, update_at, choice_at, answer_at, named_at, statement_at, section_of}
use Rattle.def_language.specs.Sayable.{IsOuter, IsTerm, IsWrittenFact, IsWrittenAtom, IsWrittenMapping, IsWrittenOperation, IsWrittenChoice, IsSayable, MayStand}
use Rattle.def_language.proofs.Many.{Reads, all_again}

value_again : (d : Datum) → IsOuter d → value_of (value_word d) ≡ Ok d
value_again (Number z) outer = refl
value_again (Text t) outer = refl
value_again (Unknown n) outer =
    let named : ℕ → Result Datum Kind = λ a. Ok (Unknown (record { update = n.update; attempt = a; place = n.place })) in
    ap named (sym outer)

term_again : (t : WrittenTerm) → IsTerm t → term_of (term_word t) ≡ Ok t
term_again (Variable n) good = refl
term_again (Constant (Number z)) good = refl
term_again (Constant (Text t)) good = refl
term_again (Constant (Unknown n)) good = absurd good

values_read : (rest : List Word) → Reads (item_at missing.Value value_of) (one_word value_word) IsOuter (closes ∷ rest) rest
unfolding item_at
values_read rest = record { next = λ d after good. rw (value_again d good) refl; last = λ d good. rw (value_again d good) refl }

terms_read : (rest : List Word) → Reads (item_at missing.Term term_of) (one_word term_word) IsTerm (closes ∷ rest) rest
unfolding item_at
terms_read rest = record { next = λ t after good. rw (term_again t good) refl; last = λ t good. rw (term_again t good) refl }

pub fact_again : (fact : WrittenFact) (rest : List Word) → IsWrittenFact fact → fact_at (fact_words fact ++ rest) ≡ Ok (fact, rest)
unfolding fact_at name_at open_at items_at
fact_again fact rest good =
    let e : (separated (one_word value_word) fact.values ++ closes ∷ []) ++ rest ≡ separated (one_word value_word) fact.values ++ closes ∷ rest = append_assoc (separated (one_word value_word) fact.values) (closes ∷ []) rest in
    rw (e, all_again (item_at missing.Value value_of) (one_word value_word) IsOuter (closes ∷ rest) rest (values_read rest) fact.values good.0 good.1) refl

pub atom_again : (atom : WrittenAtom) (rest : List Word) → IsWrittenAtom atom → atom_at (atom_words atom ++ rest) ≡ Ok (atom, rest)
unfolding atom_at name_at open_at items_at
atom_again atom rest good =
    let e : (separated (one_word term_word) atom.terms ++ closes ∷ []) ++ rest ≡ separated (one_word term_word) atom.terms ++ closes ∷ rest = append_assoc (separated (one_word term_word) atom.terms) (closes ∷ []) rest in
    rw (e, all_again (item_at missing.Term term_of) (one_word term_word) IsTerm (closes ∷ rest) rest (terms_read rest) atom.terms good.0 good.1) refl

left_reads : (rest : List Word) → Reads left_atom atom_words IsWrittenAtom (arrow ∷ rest) rest
unfolding left_atom
left_reads rest = record { next = λ a after good. rw (atom_again a (comma ∷ after) good) refl; last = λ a good. rw (atom_again a (arrow ∷ rest) good) refl }

right_reads : Reads right_atom atom_words IsWrittenAtom [] []
unfolding right_atom
right_reads = record { next = λ a after good. rw (atom_again a (comma ∷ after) good) refl; last = λ a good. rw (atom_again a [] good) refl }

facts_read : Reads last_fact fact_words IsWrittenFact [] []
unfolding last_fact
facts_read = record { next = λ f after good. rw (fact_again f (comma ∷ after) good) refl; last = λ f good. rw (fact_again f [] good) refl }

left_again : (left : List WrittenAtom) (rest : List Word) → AllByRecursion IsWrittenAtom left → left_at (separated atom_words left ++ arrow ∷ rest) ≡ Ok (left, rest)
unfolding left_at
left_again [] rest all = refl
left_again (a ∷ []) rest all = all_again left_atom atom_words IsWrittenAtom (arrow ∷ rest) rest (left_reads rest) (a ∷ []) (omega arith) all
left_again (a ∷ b ∷ others) rest all = all_again left_atom atom_words IsWrittenAtom (arrow ∷ rest) rest (left_reads rest) (a ∷ b ∷ others) (omega arith) all

-- items to the end of the line
to_the_end : {A : Type 0} (one : List Word → Result (A × Bool × List Word) Kind) (words : A → List Word) (Good : A → Type 0) → Reads one words Good [] []
    → (xs : List A) → 1 ≤ length xs → AllByRecursion Good xs → many (length (separated words xs)) one (separated words xs) ≡ Ok (xs, [])
to_the_end one words Good r xs some all = ap (λ ws. many (length ws) one ws) (sym (append-nil (separated words xs))) ∙ all_again one words Good [] [] r xs some all

right_again : (right : List WrittenAtom) → AllByRecursion IsWrittenAtom right → right_at (separated atom_words right) ≡ Ok right
unfolding right_at
right_again [] all = refl
right_again (a ∷ []) all = rw (to_the_end right_atom atom_words IsWrittenAtom right_reads (a ∷ []) (omega arith) all) refl
right_again (a ∷ b ∷ others) all = rw (to_the_end right_atom atom_words IsWrittenAtom right_reads (a ∷ b ∷ others) (omega arith) all) refl

pub mapping_again : (m : WrittenMapping) → IsWrittenMapping m → mapping_at (mapping_words m) ≡ Ok m
unfolding mapping_at name_at colon_at
mapping_again m good = rw (left_again m.left (separated atom_words m.right) good.0, right_again m.right good.1) refl

facts_again : (facts : List WrittenFact) → 1 ≤ length facts → AllByRecursion IsWrittenFact facts → facts_at (separated fact_words facts) ≡ Ok facts
unfolding facts_at
facts_again facts some all = rw (to_the_end last_fact fact_words IsWrittenFact facts_read facts some all) refl

-- a fact, where the line ends after it
whole_again : (fact : WrittenFact) → IsWrittenFact fact → whole (fact_at (fact_words fact)) ≡ Ok fact
unfolding whole end_at
whole_again fact good = rw (ap fact_at (sym (append-nil (fact_words fact))) ∙ fact_again fact [] good) refl

operation_again : (format : ℕ) (operation : WrittenOperation) → IsWrittenOperation format operation → operation_at format (operation_words operation) ≡ Ok operation
unfolding operation_at replace_at end_at
operation_again format (InsertFact fact) good = rw (whole_again fact good) refl
operation_again format (DeleteFact fact) good = rw (whole_again fact good) refl
operation_again format (ReplaceNull n d) good =
    let named : ℕ → Result WrittenOperation Kind = λ a. Ok (ReplaceNull (record { update = n.update; attempt = a; place = n.place }) d) in
    rw (value_again d good.1) (ap named (sym good.0))
operation_again format (AddMapping m) good = rw (good.0, mapping_again m good.1) refl

choice_again : (choice : WrittenChoice) → IsWrittenChoice choice → choice_at (choice_words choice) ≡ Ok choice
unfolding choice_at end_at
choice_again ExpandFact good = refl
choice_again (UnifyFact fact) good = rw (whole_again fact good) refl
choice_again (DeleteFacts facts) good = rw (facts_again facts good.0 good.1) refl

update_again : (format : ℕ) (label curator : Name) (operation : WrittenOperation) → IsWrittenOperation format operation
    → update_at format (name label ∷ name curator ∷ operation_words operation) ≡ Ok (Update label curator operation)
unfolding update_at name_at
update_again format label curator operation good = rw (operation_again format operation good) refl

answer_again : (label : Name) (choice : WrittenChoice) → IsWrittenChoice choice → answer_at (name label ∷ choice_words choice) ≡ Ok (Answer label choice)
unfolding answer_at name_at
answer_again label choice good = rw (choice_again choice good) refl

not_over : (section : Section) (own : ℕ) → rank section ≤ own → nat_le (rank section) own ≡ true
not_over section own le = grind (arith, nat_tests)

header_again : (f : ℕ) → (f ≡ 1) ⊎ (f ≡ 2) → header_at (statement_words (Header f)) ≡ Ok (Header f)
unfolding header_at
header_again f (inl one) = rw one refl
header_again f (inr two) = rw two refl

-- what the line's first word makes of the others
abbrev read_named : Section → ℕ → Statement → Result Statement Kind
read_named section format (Header f) = Ok (Header f)
read_named section format (Relation n columns) = named_at section format (codes "relation") (name n ∷ number columns ∷ [])
read_named section format (Mapping m) = named_at section format (codes "mapping") (mapping_words m)
read_named section format (Base fact) = named_at section format (codes "base") (fact_words fact)
read_named section format (Update label curator operation) = named_at section format (codes "update") (name label ∷ name curator ∷ operation_words operation)
read_named section format (Answer label choice) = named_at section format (codes "answer") (name label ∷ choice_words choice)
read_named section format End = named_at section format (codes "end") []

named_again : (section : Section) (format : ℕ) (st : Statement) → rank section ≤ rank (section_of st) → IsSayable format st → read_named section format st ≡ Ok st
unfolding named_at relation_at name_at end_at
named_again section format (Header f) le good = refl
named_again section format (Relation n columns) le good = rw (not_over section 1 le) refl
named_again section format (Mapping m) le good = rw (not_over section 2 le, mapping_again m good) refl
named_again section format (Base fact) le good = rw (not_over section 3 le, whole_again fact good) refl
named_again section format (Update label curator operation) le good = rw (not_over section 4 le) (update_again format label curator operation good)
named_again section format (Answer label choice) le good = rw (not_over section 4 le) (answer_again label choice good)
named_again section format End le good = rw (not_over section 5 le) refl

pub statement_again : (section : Section) (format : ℕ) (st : Statement) → MayStand section st → IsSayable format st → statement_at section format (statement_words st) ≡ Ok st
unfolding statement_at
statement_again Beginning format (Header f) stand good = header_again f good
statement_again Beginning format st stand good = absurd stand
statement_again section format (Header f) stand good = absurd stand
statement_again section format st stand good = named_again section format st stand good
