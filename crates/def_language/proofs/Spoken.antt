-- The words of what is printed are words that tokens say, and their texts are UTF-8.
use Rattle.std.proofs.Common.{◌≡◌, ℕ, zero, suc, ◌^◌, ◌<◌, ◌≤◌, List, [], ◌∷◌, ◌++◌, length, refl, ap, arith}
use Rattle.std.specs.Prelude.{Option, Some, map, IsUtf8}
use Rattle.std.specs.List.{AllByRecursion}
use Rattle.std.proofs.lemmas.List.{length-map}
use Rattle.std.proofs.lemmas.Option.{slice_get_within}
use Rattle.def_chase.specs.Values.{Datum, Number, Text, Unknown, Fact}
use Rattle.def_chase.specs.Mappings.{Slot, Var, Const, Pattern}
use Rattle.def_chase.specs.Updates.{Choice, Expand, Unify, Drop}
use Rattle.def_language.specs.Words.{Word, text, closes, comma, arrow}
use Rattle.def_language.specs.Names.{Name}
use Rattle.def_language.specs.Statements.{WrittenFact, WrittenTerm, WrittenAtom}
use Rattle.def_language.specs.Grammar.{value_word, term_word, separated, one_word, fact_words, atom_words, mapping_words, choice_words}
use Rattle.def_language.specs.Layout.{IsSpoken}
use Rattle.def_language.specs.Texts.{HasValue, HasTerm, HasAtoms, HasSides, ChoiceHasMembers}
use Rattle.def_language.specs.Sayable.{IsOuter, IsTerm, IsWrittenFact, IsWrittenAtom, IsWrittenMapping, IsWrittenChoice}
use Rattle.def_language.specs.Sessions.{RelationSchema, SessionMapping, relation_names}
use Rattle.def_language.specs.Printing.{name_of, written_fact, written_term, written_atom, written_mapping, written_choice}
use Rattle.def_language.specs.Validity.{IsName, AreNew, AreNames, IsRelation, IsValue, HasColumns, IsFact, IsSlot, IsAtom, IsSide, IsMapping, IsChoice}

-- a text is UTF-8
abbrev pub IsText : Word → Type 0
IsText (text t) = IsUtf8 t
IsText _ = Unit {0}

abbrev pub IsPrinted : Word → Type 0
IsPrinted w = IsSpoken w × IsText w

abbrev pub ArePrinted : List Word → Type 0
ArePrinted ws = AllByRecursion IsPrinted ws

pub all_joined : {A : Type 0} (P : A → Type 0) (xs ys : List A) → AllByRecursion P xs → AllByRecursion P ys → AllByRecursion P (xs ++ ys)
all_joined P [] ys all all' = all'
all_joined P (x ∷ xs) ys all all' = (all.0, all_joined P xs ys all.1 all')

pub front_all : {A : Type 0} (P : A → Type 0) (xs ys : List A) → AllByRecursion P (xs ++ ys) → AllByRecursion P xs
front_all P [] ys all = tt
front_all P (x ∷ xs) ys all = (all.0, front_all P xs ys all.1)

pub back_all : {A : Type 0} (P : A → Type 0) (xs ys : List A) → AllByRecursion P (xs ++ ys) → AllByRecursion P ys
back_all P [] ys all = all
back_all P (x ∷ xs) ys all = back_all P xs ys all.1

pub all_mapped : {A B : Type 0} (P : B → Type 0) (Q : A → Type 0) (f : A → B) → ((x : A) → Q x → P (f x)) → (xs : List A) → AllByRecursion Q xs → AllByRecursion P (map f xs)
all_mapped P Q f each [] all = tt
all_mapped P Q f each (x ∷ xs) all = (each x all.0, all_mapped P Q f each xs all.1)

separated_printed : {A : Type 0} (words : A → List Word) (Good : A → Type 0) → ((x : A) → Good x → ArePrinted (words x)) → (xs : List A) → AllByRecursion Good xs → ArePrinted (separated words xs)
separated_printed words Good each [] all = tt
separated_printed words Good each (x ∷ []) all = each x all.0
separated_printed words Good each (x ∷ y ∷ xs) all = all_joined IsPrinted (words x) (comma ∷ separated words (y ∷ xs)) (each x all.0) ((tt, tt), separated_printed words Good each (y ∷ xs) all.1)

-- a name of a list is well formed
pub named : (before names : List Name) (v : ℕ) → AreNew before names → v < length names → IsName (name_of names v)
named before [] v all lt = absurd (omega arith)
named before (n ∷ names) zero all lt = all.0
named before (n ∷ names) (suc v) all lt = named (before ++ n ∷ []) names v all.2 (omega arith)

pub relation_named : (relations : List RelationSchema) (r columns : ℕ) → AreNames (relation_names relations) → HasColumns relations r columns → IsName (name_of (relation_names relations) r)
relation_named relations r columns names has =
    let inside : r < length relations = slice_get_within relations r has.0 has.1 in
    named [] (relation_names relations) r names (omega (arith, length-map relations (λ (s : RelationSchema). s.name)))

pub value_printed : (most : ℕ) → most < 2 ^ 32 → (d : Datum) → IsValue most d → IsPrinted (value_word d)
value_printed most lt (Number z) good = (good, tt)
value_printed most lt (Text t) good = (good.0, good.1)
value_printed most lt (Unknown n) good = let low : n.update ≤ most = good.1 in ((omega arith, good.2), tt)

pub value_outer : (most : ℕ) (d : Datum) → IsValue most d → IsOuter d
value_outer most (Number z) good = tt
value_outer most (Text t) good = tt
value_outer most (Unknown n) good = good.0

outer_values : (most : ℕ) (ds : List Datum) → AllByRecursion (IsValue most) ds → AllByRecursion IsOuter ds
outer_values most [] all = tt
outer_values most (d ∷ ds) all = (value_outer most d all.0, outer_values most ds all.1)

some_x : (x y : RelationSchema) → let f : RelationSchema → Option RelationSchema = λ z. Some z in f x ≡ f y → x ≡ y
some_x x y e = cc

-- a relation has at least one column
pub some_columns : (relations : List RelationSchema) (r columns : ℕ) → AllByRecursion IsRelation relations → HasColumns relations r columns → 1 ≤ columns
some_columns [] r columns all has = let f : ⊥ = let e = has.1 in cc in absurd f
some_columns (x ∷ relations) zero columns all has =
    let same : x.arity ≡ has.0.arity = ap (λ (y : RelationSchema). y.arity) (some_x x has.0 has.1) in
    let low : 1 ≤ x.arity = all.0.0 in
    let is : has.0.arity ≡ columns = has.2 in
    omega arith
some_columns (x ∷ relations) (suc r) columns all has = some_columns relations r columns all.1 (has.0, has.1, has.2)

module _ (relations : List RelationSchema) (names : AreNames (relation_names relations)) (some : AllByRecursion IsRelation relations) where
  pub fact_printed : (most : ℕ) → most < 2 ^ 32 → (t : Fact) → IsFact relations most t → ArePrinted (fact_words (written_fact relations t))
  fact_printed most lt t good = (
    (relation_named relations t.relation (length t.values) names good.0, tt),
    (
      (tt, tt),
      all_joined IsPrinted (separated (one_word value_word) t.values) (closes ∷ []) (separated_printed (one_word value_word) (IsValue most) (λ d g. (value_printed most lt d g, tt)) t.values good.1) ((tt, tt), tt),
    ),
  )

  pub fact_sayable : (most : ℕ) (t : Fact) → IsFact relations most t → IsWrittenFact (written_fact relations t)
  fact_sayable most t good = (some_columns relations t.relation (length t.values) some good.0, outer_values most t.values good.1)

  facts_sayable : (most : ℕ) (ts : List Fact) → AllByRecursion (IsFact relations most) ts → AllByRecursion IsWrittenFact (map (written_fact relations) ts)
  facts_sayable most ts all = all_mapped IsWrittenFact (IsFact relations most) (written_fact relations) (fact_sayable most) ts all

  pub choice_printed : (most : ℕ) → most < 2 ^ 32 → (choice : Choice) → IsChoice relations most choice → ArePrinted (choice_words (written_choice relations choice))
  choice_printed most lt Expand good = ((refl, tt), tt)
  choice_printed most lt (Unify t) good = ((refl, tt), fact_printed most lt t good)
  choice_printed most lt (Drop ts) good = (
    (refl, tt),
    separated_printed fact_words (λ (f : WrittenFact). ArePrinted (fact_words f)) (λ f all. all) (map (written_fact relations) ts)
        (all_mapped (λ (f : WrittenFact). ArePrinted (fact_words f)) (IsFact relations most) (written_fact relations) (fact_printed most lt) ts good.1),
  )

  pub choice_sayable : (most : ℕ) (choice : Choice) → IsChoice relations most choice → IsWrittenChoice (written_choice relations choice)
  choice_sayable most Expand good = tt
  choice_sayable most (Unify t) good = fact_sayable most t good
  choice_sayable most (Drop ts) good = let n : length (map (written_fact relations) ts) ≡ length ts = length-map ts (written_fact relations) in let low : 1 ≤ length ts = good.0 in (omega arith, facts_sayable most ts good.1)

  pub choice_members : (most : ℕ) (choice : Choice) → IsChoice relations most choice → ChoiceHasMembers (written_choice relations choice)
  choice_members most Expand good = tt
  choice_members most (Unify t) good = (fact_sayable most t good).0
  choice_members most (Drop ts) good =
      let n : length (map (written_fact relations) ts) ≡ length ts = length-map ts (written_fact relations) in
      let low : 1 ≤ length ts = good.0 in
      (omega arith, all_mapped HasValue (IsFact relations most) (written_fact relations) (λ t g. (fact_sayable most t g).0) ts good.1)

  module _ (m : SessionMapping) (good : IsMapping relations m) where
    slot_printed : (slot : Slot) → IsSlot (length m.variables) slot → IsPrinted (term_word (written_term m.variables slot))
    slot_printed (Var v) g = (named [] m.variables v good.names g, tt)
    slot_printed (Const (Number z)) g = (g, tt)
    slot_printed (Const (Text t)) g = (g.0, g.1)
    slot_printed (Const (Unknown n)) g = absurd g

    slot_sayable : (slot : Slot) → IsSlot (length m.variables) slot → IsTerm (written_term m.variables slot)
    slot_sayable (Var v) g = tt
    slot_sayable (Const (Number z)) g = tt
    slot_sayable (Const (Text t)) g = tt
    slot_sayable (Const (Unknown n)) g = absurd g

    atom_printed : (a : Pattern) → IsAtom relations (length m.variables) a → ArePrinted (atom_words (written_atom relations m.variables a))
    atom_printed a g =
        let terms : List WrittenTerm = map (written_term m.variables) a.terms in (
          (relation_named relations a.relation (length a.terms) names g.0, tt),
          (
            (tt, tt),
            all_joined IsPrinted (separated (one_word term_word) terms) (closes ∷ [])
                (separated_printed (one_word term_word) (λ (t : WrittenTerm). IsPrinted (term_word t)) (λ t p. (p, tt)) terms (all_mapped (λ (t : WrittenTerm). IsPrinted (term_word t)) (IsSlot (length m.variables)) (written_term m.variables) slot_printed a.terms g.1))
                ((tt, tt), tt),
          ),
        )

    atom_sayable : (a : Pattern) → IsAtom relations (length m.variables) a → IsWrittenAtom (written_atom relations m.variables a)
    atom_sayable a g =
        let n : length (map (written_term m.variables) a.terms) ≡ length a.terms = length-map a.terms (written_term m.variables) in
        let low : 1 ≤ length a.terms = some_columns relations a.relation (length a.terms) some g.0 in
        (omega arith, all_mapped IsTerm (IsSlot (length m.variables)) (written_term m.variables) slot_sayable a.terms g.1)

    side_printed : (atoms : List Pattern) → AllByRecursion (IsAtom relations (length m.variables)) atoms → ArePrinted (separated atom_words (map (written_atom relations m.variables) atoms))
    side_printed atoms all =
        separated_printed atom_words (λ (a : WrittenAtom). ArePrinted (atom_words a)) (λ a p. p) (map (written_atom relations m.variables) atoms)
        (all_mapped (λ (a : WrittenAtom). ArePrinted (atom_words a)) (IsAtom relations (length m.variables)) (written_atom relations m.variables) atom_printed atoms all)

    pub mapping_printed : IsName m.name → ArePrinted (mapping_words (written_mapping relations m))
    mapping_printed called = (
      (called, tt),
      (
        (tt, tt),
        all_joined IsPrinted (separated atom_words (map (written_atom relations m.variables) m.rule.left)) (arrow ∷ separated atom_words (map (written_atom relations m.variables) m.rule.right))
            (side_printed m.rule.left good.left.2) ((tt, tt), side_printed m.rule.right good.right.2),
      ),
    )

    pub mapping_sayable : IsWrittenMapping (written_mapping relations m)
    mapping_sayable = (
      all_mapped IsWrittenAtom (IsAtom relations (length m.variables)) (written_atom relations m.variables) atom_sayable m.rule.left good.left.2,
      all_mapped IsWrittenAtom (IsAtom relations (length m.variables)) (written_atom relations m.variables) atom_sayable m.rule.right good.right.2,
    )

    atoms_members : (atoms : List Pattern) → IsSide relations (length m.variables) atoms → HasAtoms (map (written_atom relations m.variables) atoms)
    atoms_members atoms side =
        let n : length (map (written_atom relations m.variables) atoms) ≡ length atoms = length-map atoms (written_atom relations m.variables) in
        let low : 1 ≤ length atoms = side.0 in
        (omega arith, all_mapped HasTerm (IsAtom relations (length m.variables)) (written_atom relations m.variables) (λ a g. (atom_sayable a g).0) atoms side.2)

    pub mapping_members : HasSides (written_mapping relations m)
    mapping_members = (atoms_members m.rule.left good.left, atoms_members m.rule.right good.right)
