-- What is laid out of a statement's words, written out directly.
use Rattle.std.proofs.Common.{◌≡◌, ℕ, ◌≤◌, false, List, [], ◌∷◌, ◌++◌, length, refl, sym, ap, ◌∙◌, arith, append_assoc, append-nil}
use Rattle.std.specs.Prelude.{flat_map, codes}
use Rattle.std.specs.List.{AllByRecursion}
use Rattle.def_chase.specs.Values.{Datum, Number, Text, Unknown}
use Rattle.def_language.specs.Words.{Word, name, opens, closes, comma, colon, arrow}
use Rattle.def_language.specs.Names.{Name}
use Rattle.def_language.specs.Statements.{WrittenFact, WrittenTerm, Variable, Constant, WrittenAtom, WrittenMapping, WrittenOperation, InsertFact, DeleteFact, ReplaceNull, AddMapping, WrittenChoice, ExpandFact, UnifyFact, DeleteFacts, Statement, Header, Relation, Mapping, Base, Update, Answer, End}
use Rattle.def_language.specs.Grammar.{value_word, term_word, separated, one_word, fact_words, atom_words, mapping_words, operation_words, choice_words, statement_words}
use Rattle.def_language.specs.Layout.{spelled, is_open, is_tight, gap, laid_out}
use Rattle.def_language.specs.Printing.{value_text, joined_text}
use Rattle.def_language.specs.Texts.{applied_text, fact_text, term_text, atom_text, sides_text, operation_text, choice_text, statement_text, HasValue, HasTerm, HasSides, OperationHasMembers, ChoiceHasMembers, HasMembers}

-- words that are laid out after others
laid_after : (xs : List Word) (w v : Word) (ys : List Word) → laid_out ((xs ++ w ∷ []) ++ v ∷ ys) ≡ laid_out (xs ++ w ∷ []) ++ (gap w v ++ laid_out (v ∷ ys))
unfolding laid_out
laid_after [] w v ys = refl
laid_after (x ∷ []) w v ys =
    let a : List ℕ = gap x w in
    let b : List ℕ = gap w v ++ laid_out (v ∷ ys) in
    sym (append_assoc (spelled x) (gap x w ++ spelled w) (gap w v ++ laid_out (v ∷ ys)) ∙ ap (λ (bs : List ℕ). spelled x ++ bs) (append_assoc (gap x w) (spelled w) (gap w v ++ laid_out (v ∷ ys))))
laid_after (x ∷ y ∷ xs) w v ys =
    let others = laid_after (y ∷ xs) w v ys in
    let front : List ℕ = laid_out (y ∷ (xs ++ w ∷ [])) in
    ap (λ (bs : List ℕ). spelled x ++ (gap x y ++ bs)) others
    ∙ sym (append_assoc (spelled x) (gap x y ++ laid_out (y ∷ (xs ++ w ∷ []))) (gap w v ++ laid_out (v ∷ ys)) ∙ ap (λ (bs : List ℕ). spelled x ++ bs) (append_assoc (gap x y) (laid_out (y ∷ (xs ++ w ∷ []))) (gap w v ++ laid_out (v ∷ ys))))

-- a word that is no sign
abbrev Plain : Word → Type 0
Plain w = (is_open w ≡ false) × (is_tight w ≡ false)

value_plain : (d : Datum) → Plain (value_word d)
value_plain (Number z) = (refl, refl)
value_plain (Text t) = (refl, refl)
value_plain (Unknown n) = (refl, refl)

term_plain : (t : WrittenTerm) → Plain (term_word t)
term_plain (Variable n) = (refl, refl)
term_plain (Constant d) = value_plain d

value_spelled : (d : Datum) → spelled (value_word d) ≡ value_text false d
value_spelled (Number z) = refl
value_spelled (Text t) = refl
value_spelled (Unknown n) = refl

term_spelled : (t : WrittenTerm) → spelled (term_word t) ≡ term_text t
term_spelled (Variable n) = refl
term_spelled (Constant d) = value_spelled d

-- ---- lists in parentheses

module _ {A : Type 0} (word : A → Word) (plain : (x : A) → Plain (word x)) where
  comma_laid : (x : A) (xs : List A) → laid_out (comma ∷ (separated (one_word word) (x ∷ xs) ++ closes ∷ [])) ≡ 44 ∷ 32 ∷ laid_out (separated (one_word word) (x ∷ xs) ++ closes ∷ [])
  unfolding laid_out
  comma_laid x [] = rw ((plain x).1) refl
  comma_laid x (y ∷ xs) = rw ((plain x).1) refl

  items_laid : (x : A) (xs : List A) → laid_out (separated (one_word word) (x ∷ xs) ++ closes ∷ []) ≡ joined_text (λ y. spelled (word y)) (x ∷ xs) ++ 41 ∷ []
  unfolding laid_out
  items_laid x [] = rw ((plain x).0) (ap (λ (bs : List ℕ). bs ++ 41 ∷ []) (sym (append-nil (spelled (word x)))))
  items_laid x (y ∷ xs) = rw ((plain x).0, comma_laid y xs, items_laid y xs) (sym (append_assoc (spelled (word x)) (44 ∷ 32 ∷ joined_text (λ y. spelled (word y)) (y ∷ xs)) (41 ∷ [])))

  open_laid : (x : A) (xs : List A) → laid_out (opens ∷ (separated (one_word word) (x ∷ xs) ++ closes ∷ [])) ≡ 40 ∷ laid_out (separated (one_word word) (x ∷ xs) ++ closes ∷ [])
  unfolding laid_out
  open_laid x [] = refl
  open_laid x (y ∷ xs) = refl

  applied_laid : (n : Name) (xs : List A) → 1 ≤ length xs → laid_out (name n ∷ opens ∷ (separated (one_word word) xs ++ closes ∷ [])) ≡ applied_text n (joined_text (λ y. spelled (word y)) xs)
  unfolding laid_out
  applied_laid n [] some = absurd (omega arith)
  applied_laid n (x ∷ xs) some = ap (λ (bs : List ℕ). n ++ bs) (open_laid x xs ∙ ap (λ (bs : List ℕ). 40 ∷ bs) (items_laid x xs))

joined_same : {A : Type 0} (f g : A → List ℕ) (xs : List A) → ((x : A) → f x ≡ g x) → joined_text f xs ≡ joined_text g xs
joined_same f g [] same = refl
joined_same f g (x ∷ xs) same = rw (same x) (ap (λ (bs : List ℕ). g x ++ bs) (more xs)) where
  more : (ys : List _) → flat_map (λ y. 44 ∷ 32 ∷ f y) ys ≡ flat_map (λ y. 44 ∷ 32 ∷ g y) ys
  more [] = refl
  more (y ∷ ys) = rw (same y, more ys) refl

pub fact_laid : (fact : WrittenFact) → HasValue fact → laid_out (fact_words fact) ≡ fact_text fact
fact_laid fact some =
    applied_laid value_word value_plain fact.relation fact.values some ∙ ap (applied_text fact.relation) (joined_same (λ (d : Datum). spelled (value_word d)) (value_text false) fact.values value_spelled)

atom_laid : (atom : WrittenAtom) → HasTerm atom → laid_out (atom_words atom) ≡ atom_text atom
atom_laid atom some =
    applied_laid term_word term_plain atom.relation atom.terms some ∙ ap (applied_text atom.relation) (joined_same (λ (t : WrittenTerm). spelled (term_word t)) term_text atom.terms term_spelled)

-- ---- items that end in a parenthesis, with commas between

-- what begins with a name and ends in a parenthesis
record Applied (words : List Word) : Type 0 where
  called : Name
  inside : List Word
  front : words ≡ name called ∷ inside
  before : List Word
  back : words ≡ before ++ closes ∷ []

fact_applied : (fact : WrittenFact) → Applied (fact_words fact)
fact_applied fact = record {
  called = fact.relation;
  inside = opens ∷ (separated (one_word value_word) fact.values ++ closes ∷ []);
  front = refl;
  before = name fact.relation ∷ opens ∷ separated (one_word value_word) fact.values;
  back = refl;
}

atom_applied : (atom : WrittenAtom) → Applied (atom_words atom)
atom_applied atom = record {
  called = atom.relation;
  inside = opens ∷ (separated (one_word term_word) atom.terms ++ closes ∷ []);
  front = refl;
  before = name atom.relation ∷ opens ∷ separated (one_word term_word) atom.terms;
  back = refl;
}

-- a comma or an arrow after what ends in a parenthesis
after_applied : (words : List Word) (w : Word) (ys : List Word) → Applied words → laid_out (words ++ w ∷ ys) ≡ laid_out words ++ (gap closes w ++ laid_out (w ∷ ys))
after_applied words w ys a =
    ap (λ (ws : List Word). laid_out (ws ++ w ∷ ys)) a.back ∙ laid_after a.before closes w ys ∙ ap (λ (ws : List Word). laid_out ws ++ (gap closes w ++ laid_out (w ∷ ys))) (sym a.back)

comma_before : (words : List Word) → Applied words → laid_out (comma ∷ words) ≡ 44 ∷ 32 ∷ laid_out words
unfolding laid_out
comma_before words a = ap (λ (ws : List Word). laid_out (comma ∷ ws)) a.front ∙ ap (λ (ws : List Word). 44 ∷ 32 ∷ laid_out ws) (sym a.front)

module _ {A : Type 0} (words : A → List Word) (directly : A → List ℕ) (Good : A → Type 0) (applied : (x : A) → Applied (words x)) (laid : (x : A) → Good x → laid_out (words x) ≡ directly x) where
  list_applied : (x : A) (xs : List A) → Applied (separated words (x ∷ xs))
  list_applied x [] = applied x
  list_applied x (y ∷ xs) =
      let a = applied x in
      let b = list_applied y xs in
      record {
        called = a.called;
        inside = a.inside ++ comma ∷ separated words (y ∷ xs);
        front = ap (λ (ws : List Word). ws ++ comma ∷ separated words (y ∷ xs)) a.front;
        before = words x ++ comma ∷ b.before;
        back = ap (λ (ws : List Word). words x ++ comma ∷ ws) b.back ∙ sym (append_assoc (words x) (comma ∷ b.before) (closes ∷ []));
      }

  list_laid : (x : A) (xs : List A) → AllByRecursion Good (x ∷ xs) → laid_out (separated words (x ∷ xs)) ≡ joined_text directly (x ∷ xs)
  list_laid x [] all = laid x all.0 ∙ sym (append-nil (directly x))
  list_laid x (y ∷ xs) all =
      after_applied (words x) comma (separated words (y ∷ xs)) (applied x) ∙ ap (λ (bs : List ℕ). laid_out (words x) ++ bs) (comma_before (separated words (y ∷ xs)) (list_applied y xs) ∙ ap (λ (bs : List ℕ). 44 ∷ 32 ∷ bs) (list_laid y xs all.1))
      ∙ ap (λ (bs : List ℕ). bs ++ (44 ∷ 32 ∷ joined_text directly (y ∷ xs))) (laid x all.0)

  some_applied : (xs : List A) → 1 ≤ length xs → Applied (separated words xs)
  some_applied [] some = absurd (omega arith)
  some_applied (x ∷ xs) some = list_applied x xs

  some_laid : (xs : List A) → 1 ≤ length xs → AllByRecursion Good xs → laid_out (separated words xs) ≡ joined_text directly xs
  some_laid [] some all = absurd (omega arith)
  some_laid (x ∷ xs) some all = list_laid x xs all

-- ---- statements

-- a name before what begins with a name
name_before : (n : Name) (words : List Word) → Applied words → laid_out (name n ∷ words) ≡ n ++ (32 ∷ laid_out words)
unfolding laid_out
name_before n words a = ap (λ (ws : List Word). laid_out (name n ∷ ws)) a.front ∙ ap (λ (ws : List Word). n ++ (32 ∷ laid_out ws)) (sym a.front)

sides_laid : (m : WrittenMapping) → HasSides m → laid_out (mapping_words m) ≡ sides_text m
unfolding laid_out
sides_laid m good =
    let left : List Word = separated atom_words m.left in
    let right : List Word = separated atom_words m.right in
    let l = some_applied atom_words atom_text HasTerm atom_applied atom_laid m.left good.0.0 in
    let r = some_applied atom_words atom_text HasTerm atom_applied atom_laid m.right good.1.0 in
    let arrow_first : laid_out (arrow ∷ separated atom_words m.right) ≡ 45 ∷ 62 ∷ 32 ∷ laid_out (separated atom_words m.right) =
    ap (λ (ws : List Word). laid_out (arrow ∷ ws)) r.front ∙ ap (λ (ws : List Word). 45 ∷ 62 ∷ 32 ∷ laid_out ws) (sym r.front) in
    let inside : laid_out (separated atom_words m.left ++ arrow ∷ separated atom_words m.right) ≡ joined_text atom_text m.left ++ (codes " -> " ++ joined_text atom_text m.right) =
    after_applied (separated atom_words m.left) arrow (separated atom_words m.right) l
    ∙ ap (λ (bs : List ℕ). laid_out (separated atom_words m.left) ++ (32 ∷ bs)) (arrow_first ∙ ap (λ (bs : List ℕ). 45 ∷ 62 ∷ 32 ∷ bs) (some_laid atom_words atom_text HasTerm atom_applied atom_laid m.right good.1.0 good.1.1))
    ∙ ap (λ (bs : List ℕ). bs ++ (codes " -> " ++ joined_text atom_text m.right)) (some_laid atom_words atom_text HasTerm atom_applied atom_laid m.left good.0.0 good.0.1) in
    let front : separated atom_words m.left ++ arrow ∷ separated atom_words m.right ≡ name l.called ∷ (l.inside ++ arrow ∷ separated atom_words m.right) = ap (λ (ws : List Word). ws ++ arrow ∷ separated atom_words m.right) l.front in
    ap (λ (ws : List Word). laid_out (name m.name ∷ colon ∷ ws)) front ∙ ap (λ (ws : List Word). m.name ++ (58 ∷ 32 ∷ laid_out ws)) (sym front) ∙ ap (λ (bs : List ℕ). m.name ++ (58 ∷ 32 ∷ bs)) inside

operation_laid : (operation : WrittenOperation) → OperationHasMembers operation → laid_out (operation_words operation) ≡ operation_text operation
unfolding laid_out
operation_laid (InsertFact fact) good = name_before (codes "insert") (fact_words fact) (fact_applied fact) ∙ ap (λ (bs : List ℕ). codes "insert " ++ bs) (fact_laid fact good)
operation_laid (DeleteFact fact) good = name_before (codes "delete") (fact_words fact) (fact_applied fact) ∙ ap (λ (bs : List ℕ). codes "delete " ++ bs) (fact_laid fact good)
operation_laid (ReplaceNull n d) good = rw ((value_plain d).1, value_spelled d) refl
operation_laid (AddMapping m) good = ap (λ (bs : List ℕ). codes "mapping " ++ bs) (sides_laid m good)

choice_laid : (choice : WrittenChoice) → ChoiceHasMembers choice → laid_out (choice_words choice) ≡ choice_text choice
unfolding laid_out
choice_laid ExpandFact good = refl
choice_laid (UnifyFact fact) good = name_before (codes "unify") (fact_words fact) (fact_applied fact) ∙ ap (λ (bs : List ℕ). codes "unify " ++ bs) (fact_laid fact good)
choice_laid (DeleteFacts facts) good =
    name_before (codes "delete") (separated fact_words facts) (some_applied fact_words fact_text HasValue fact_applied fact_laid facts good.0)
    ∙ ap (λ (bs : List ℕ). codes "delete " ++ bs) (some_laid fact_words fact_text HasValue fact_applied fact_laid facts good.0 good.1)

-- two names before an operation
update_laid : (label curator : Name) (operation : WrittenOperation) → laid_out (name label ∷ name curator ∷ operation_words operation) ≡ label ++ (32 ∷ (curator ++ (32 ∷ laid_out (operation_words operation))))
unfolding laid_out
update_laid label curator (InsertFact fact) = refl
update_laid label curator (DeleteFact fact) = refl
update_laid label curator (ReplaceNull n d) = refl
update_laid label curator (AddMapping m) = refl

answer_laid : (label : Name) (choice : WrittenChoice) → laid_out (name label ∷ choice_words choice) ≡ label ++ (32 ∷ laid_out (choice_words choice))
unfolding laid_out
answer_laid label ExpandFact = refl
answer_laid label (UnifyFact fact) = refl
answer_laid label (DeleteFacts []) = refl
answer_laid label (DeleteFacts (f ∷ [])) = refl
answer_laid label (DeleteFacts (f ∷ g ∷ facts)) = refl

pub statement_laid : (st : Statement) → HasMembers st → laid_out (statement_words st) ≡ statement_text st
unfolding laid_out
statement_laid (Header f) good = refl
statement_laid (Relation n columns) good = refl
statement_laid (Mapping m) good = ap (λ (bs : List ℕ). codes "mapping " ++ bs) (sides_laid m good)
statement_laid (Base fact) good = name_before (codes "base") (fact_words fact) (fact_applied fact) ∙ ap (λ (bs : List ℕ). codes "base " ++ bs) (fact_laid fact good)
statement_laid (Update label curator operation) good = ap (λ (bs : List ℕ). codes "update " ++ bs) (update_laid label curator operation ∙ ap (λ (bs : List ℕ). label ++ (32 ∷ (curator ++ (32 ∷ bs)))) (operation_laid operation good))
statement_laid (Answer label choice) good = ap (λ (bs : List ℕ). codes "answer " ++ bs) (answer_laid label choice ∙ ap (λ (bs : List ℕ). label ++ (32 ∷ bs)) (choice_laid choice good))
statement_laid End good = refl
