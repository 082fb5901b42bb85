-- Facts and mappings that pass their checks are valid.
use Rattle.std.proofs.Common.{◌≡◌, ℕ, suc, ◌+◌, ◌-◌, ◌≤◌, inl, inr, false, List, [], ◌∷◌, ◌++◌, length, refl, sym, ap, ◌∙◌, subst, arith, append_assoc, append-nil, length-append}
use Rattle.std.specs.Prelude.{Result, Ok, Err, Option, Some, None, map, nat_eq, nat_lt, ◌==◌, flat_map, slice_get}
use Rattle.std.specs.List.{AllByRecursion, range_with_len}
use Rattle.std.proofs.lemmas.Bool.{eqb-true}
use Rattle.std.proofs.lemmas.Bool.Decides.{nat_tests}
use Rattle.std.proofs.lemmas.List.{map-append, length-map}
use Rattle.def_chase.specs.Values.{Datum, Number, Text, Unknown, Fact}
use Rattle.def_chase.specs.Mappings.{Pattern}
use Rattle.def_language.specs.Words.{Word, closes, comma, arrow}
use Rattle.def_language.specs.Faults.{Kind, Arity}
use Rattle.def_language.specs.Reading.{each}
use Rattle.def_language.specs.Names.{Name, same_name, place_of, firsts}
use Rattle.def_language.specs.Statements.{WrittenFact, WrittenTerm, Variable, Constant, WrittenAtom, WrittenMapping}
use Rattle.def_language.specs.Grammar.{value_word, term_word, separated, one_word, fact_words, atom_words, mapping_words}
use Rattle.def_language.specs.Sayable.{IsOuter, IsTerm, IsWrittenFact, IsWrittenAtom, IsWrittenMapping}
use Rattle.def_language.specs.Sessions.{RelationSchema, SessionMapping, relation_names}
use Rattle.def_language.specs.Meaning.{fitted, relation_of, fact_of, nulls_within, bounded_fact, variable_of, variables_in, variables_of, slot_of, pattern_of, some_atoms, few_atoms, mapping_of}
use Rattle.def_language.specs.Validity.{IsName, AreNames, IsValue, HasColumns, IsFact, IsSlot, IsAtom, number_in, numbers_in, IsMapping}
use Rattle.def_language.proofs.Many.{bind_ok, ok_is}
use Rattle.def_language.proofs.Only.{choose}
use Rattle.def_language.proofs.Spoken.{IsPrinted, ArePrinted, front_all, back_all}
use Rattle.def_language.proofs.Placed.{IsIn, AreIn, firsts_grown, firsts_front, at_place, firsts_placed, front_placed}

-- ---- words of items

pub parts_printed : {A : Type 0} (words : A → List Word) (xs : List A) (tail : List Word) → ArePrinted (separated words xs ++ tail) → AllByRecursion (λ x. ArePrinted (words x)) xs
parts_printed words [] tail all = tt
parts_printed words (x ∷ []) tail all = (front_all IsPrinted (words x) tail all, tt)
parts_printed words (x ∷ y ∷ xs) tail all =
    let e : (words x ++ comma ∷ separated words (y ∷ xs)) ++ tail ≡ words x ++ (comma ∷ (separated words (y ∷ xs) ++ tail)) = append_assoc (words x) (comma ∷ separated words (y ∷ xs)) tail in
    let split : ArePrinted (words x ++ (comma ∷ (separated words (y ∷ xs) ++ tail))) = subst ArePrinted e all in
    (front_all IsPrinted (words x) (comma ∷ (separated words (y ∷ xs) ++ tail)) split, parts_printed words (y ∷ xs) tail (back_all IsPrinted (words x) (comma ∷ (separated words (y ∷ xs) ++ tail)) split).1)

pub tail_printed : {A : Type 0} (words : A → List Word) (xs : List A) (tail : List Word) → ArePrinted (separated words xs ++ tail) → ArePrinted tail
tail_printed words xs tail all = back_all IsPrinted (separated words xs) tail all

-- ---- facts

fitted_so : (n : Name) (columns place : ℕ) (o : Option RelationSchema) (r : ℕ) (relations : List RelationSchema) → slice_get relations place ≡ o → fitted n columns place o ≡ Ok r → HasColumns relations r columns
fitted_so n columns place None r relations is e = let f : ⊥ = cc in absurd f
fitted_so n columns place (Some x) r relations is e =
    elim (choose (x.arity == columns) (Ok place) (Err (Arity n x.arity columns)) r e) [
      | inl a ↦ (x, subst (λ k. slice_get relations k ≡ Some x) (ok_is place r a.1) is, eqb-true x.arity columns a.0)
      | inr b ↦ let f : ⊥ = let g = b.1 in cc in absurd f
    ]

pub relation_found : (relations : List RelationSchema) (n : Name) (columns r : ℕ) → relation_of relations n columns ≡ Ok r → HasColumns relations r columns
unfolding relation_of
relation_found relations n columns r e = fitted_so n columns (place_of (relation_names relations) n) (slice_get relations (place_of (relation_names relations) n)) r relations refl e

pub values_valid : (most : ℕ) (ds : List Datum) (u : Unit {0}) → nulls_within most ds ≡ Ok u → AllByRecursion IsOuter ds → AllByRecursion (λ d. ArePrinted (one_word value_word d)) ds → AllByRecursion (IsValue most) ds
unfolding nulls_within
values_valid most [] u e outer printed = tt
values_valid most (Number z ∷ ds) u e outer printed = (printed.0.0.0, values_valid most ds u e outer.1 printed.1)
values_valid most (Text t ∷ ds) u e outer printed = ((printed.0.0.0, printed.0.0.1), values_valid most ds u e outer.1 printed.1)
values_valid most (Unknown n ∷ ds) u e outer printed =
    elim (choose (nat_lt most n.update) _ (nulls_within most ds) u e) [
      | inl a ↦ let f : ⊥ = let g = a.1 in cc in absurd f
      | inr b ↦ let above : nat_lt most n.update ≡ false = b.0 in ((outer.0, grind (arith, nat_tests), printed.0.0.0.1), values_valid most ds u b.1 outer.1 printed.1)
    ]

pub fact_valid : (relations : List RelationSchema) (most : ℕ) (fact : WrittenFact) (t : Fact) → bounded_fact relations most fact ≡ Ok t → IsWrittenFact fact → ArePrinted (fact_words fact) → IsFact relations most t
unfolding bounded_fact fact_of
fact_valid relations most fact t e good printed =
    let a = bind_ok (fact_of relations fact) _ t e in
    let b = bind_ok (relation_of relations fact.relation (length fact.values)) _ a.0 a.1 in
    let c = bind_ok (nulls_within most a.0.values) _ t a.2 in
    let got : Fact = record { relation = b.0; values = fact.values } in
    let is : got ≡ a.0 = ok_is got a.0 b.2 in
    let nulls : nulls_within most fact.values ≡ Ok c.0 = ap (λ (x : Fact). nulls_within most x.values) is ∙ c.1 in
    subst (IsFact relations most) (is ∙ ok_is a.0 t c.2)
    (relation_found relations fact.relation (length fact.values) b.0 b.1, values_valid most fact.values c.0 nulls good.1 (parts_printed (one_word value_word) fact.values (closes ∷ []) printed.1.1))

-- ---- what each item is

pub each_valid : {A B : Type 0} (check : A → Result B Kind) (Given : A → Type 0) (Good : B → Type 0) → ((x : A) (y : B) → check x ≡ Ok y → Given x → Good y) → (xs : List A) (ys : List B) → each check xs ≡ Ok ys
    → AllByRecursion Given xs → AllByRecursion Good ys × (length ys ≡ length xs)
unfolding each
each_valid check Given Good one [] [] e all = (tt, refl)
each_valid check Given Good one [] (y ∷ ys) e all = let f : ⊥ = cc in absurd f
each_valid {A} {B} check Given Good one (x ∷ xs) ys e all =
    let a = bind_ok (check x) _ ys e in
    let b = bind_ok (each check xs) _ ys a.2 in
    let others = each_valid check Given Good one xs b.0 b.1 all.1 in
    subst (λ (zs : List B). AllByRecursion Good zs × (length zs ≡ suc (length xs))) (ok_is (a.0 ∷ b.0) ys b.2) ((one x a.0 a.1 all.0, others.0), ap suc others.1)

pub both_all : {A : Type 0} (P Q : A → Type 0) (xs : List A) → AllByRecursion P xs → AllByRecursion Q xs → AllByRecursion (λ x. P x × Q x) xs
both_all P Q [] all all' = tt
both_all P Q (x ∷ xs) all all' = ((all.0, all'.0), both_all P Q xs all.1 all'.1)

-- ---- atoms

abbrev TermIn : List Name → WrittenTerm → Type 0
TermIn variables t = AreIn variables (variable_of t)

abbrev AtomIn : List Name → WrittenAtom → Type 0
AtomIn variables a = AllByRecursion (TermIn variables) a.terms

terms_in : (variables : List Name) (ts : List WrittenTerm) → AreIn variables (flat_map variable_of ts) → AllByRecursion (TermIn variables) ts
terms_in variables [] all = tt
terms_in variables (t ∷ ts) all = (front_all (IsIn variables) (variable_of t) (flat_map variable_of ts) all, terms_in variables ts (back_all (IsIn variables) (variable_of t) (flat_map variable_of ts) all))

atoms_in : (variables : List Name) (atoms : List WrittenAtom) → AreIn variables (variables_in atoms) → AllByRecursion (AtomIn variables) atoms
atoms_in variables [] all = tt
atoms_in variables (a ∷ atoms) all =
    let here : List Name = flat_map variable_of a.terms in
    (terms_in variables a.terms (front_all (IsIn variables) here (variables_in atoms) all), atoms_in variables atoms (back_all (IsIn variables) here (variables_in atoms) all))

slot_valid : (variables : List Name) (t : WrittenTerm) → IsTerm t → ArePrinted (one_word term_word t) → TermIn variables t → IsSlot (length variables) (slot_of variables t)
slot_valid variables (Variable n) good printed a = (at_place variables n a.0).0
slot_valid variables (Constant (Number z)) good printed a = printed.0.0
slot_valid variables (Constant (Text t)) good printed a = (printed.0.0, printed.0.1)
slot_valid variables (Constant (Unknown n)) good printed a = absurd good

slots_valid : (variables : List Name) (ts : List WrittenTerm) → AllByRecursion IsTerm ts → AllByRecursion (λ t. ArePrinted (one_word term_word t)) ts → AllByRecursion (TermIn variables) ts → AllByRecursion (IsSlot (length variables)) (map (slot_of variables) ts)
slots_valid variables [] good printed a = tt
slots_valid variables (t ∷ ts) good printed a = (slot_valid variables t good.0 printed.0 a.0, slots_valid variables ts good.1 printed.1 a.1)

-- the numbers of a term's variables are the places of their names
terms_numbers : (variables : List Name) (ts : List WrittenTerm) → flat_map number_in (map (slot_of variables) ts) ≡ map (place_of variables) (flat_map variable_of ts)
terms_numbers variables [] = refl
terms_numbers variables (Variable n ∷ ts) = ap (λ (ns : List ℕ). place_of variables n ∷ ns) (terms_numbers variables ts)
terms_numbers variables (Constant d ∷ ts) = terms_numbers variables ts

abbrev AtomGiven : List Name → WrittenAtom → Type 0
AtomGiven variables a = IsWrittenAtom a × (ArePrinted (atom_words a) × AtomIn variables a)

-- an atom, with the places of its variables
abbrev AtomRead : List RelationSchema → List Name → WrittenAtom → Pattern → Type 0
AtomRead relations variables a p = IsAtom relations (length variables) p × (flat_map number_in p.terms ≡ map (place_of variables) (flat_map variable_of a.terms))

atom_valid : (relations : List RelationSchema) (variables : List Name) (a : WrittenAtom) (p : Pattern) → pattern_of relations variables a ≡ Ok p → AtomGiven variables a → AtomRead relations variables a p
unfolding pattern_of
atom_valid relations variables a p e given =
    let b = bind_ok (relation_of relations a.relation (length a.terms)) _ p e in
    let got : Pattern = record { relation = b.0; terms = map (slot_of variables) a.terms } in
    let columns : HasColumns relations b.0 (length (map (slot_of variables) a.terms)) = subst (HasColumns relations b.0) (sym (length-map a.terms (slot_of variables))) (relation_found relations a.relation (length a.terms) b.0 b.1) in
    subst (AtomRead relations variables a) (ok_is got p b.2)
    ((columns, slots_valid variables a.terms given.0.1 (parts_printed (one_word term_word) a.terms (closes ∷ []) given.1.0.1.1) given.1.1), terms_numbers variables a.terms)

-- a side, with the places of its variables
pub record SideRead (relations : List RelationSchema) (variables : List Name) (atoms : List WrittenAtom) (ps : List Pattern) : Type 0 where
  pub good : AllByRecursion (IsAtom relations (length variables)) ps
  pub size : length ps ≡ length atoms
  pub numbers : numbers_in ps ≡ map (place_of variables) (variables_in atoms)

side_valid : (relations : List RelationSchema) (variables : List Name) (atoms : List WrittenAtom) (ps : List Pattern) → each (pattern_of relations variables) atoms ≡ Ok ps → AllByRecursion (AtomGiven variables) atoms → SideRead relations variables atoms ps
unfolding each
side_valid relations variables [] [] e all = record { good = tt; size = refl; numbers = refl }
side_valid relations variables [] (p ∷ ps) e all = let f : ⊥ = cc in absurd f
side_valid relations variables (a ∷ atoms) ps e all =
    let x = bind_ok (pattern_of relations variables a) _ ps e in
    let y = bind_ok (each (pattern_of relations variables) atoms) _ ps x.2 in
    let one = atom_valid relations variables a x.0 x.1 all.0 in
    let others = side_valid relations variables atoms y.0 y.1 all.1 in
    let here : List Name = flat_map variable_of a.terms in
    subst (SideRead relations variables (a ∷ atoms)) (ok_is (x.0 ∷ y.0) ps y.2) (record {
      good = (one.0, others.good);
      size = ap suc others.size;
      numbers = rw (one.1, others.numbers) (sym (map-append (place_of variables) here (variables_in atoms)));
    })

-- ---- mappings

some_ok : (atoms : List WrittenAtom) (u : Unit {0}) → some_atoms atoms ≡ Ok u → 1 ≤ length atoms
some_ok [] u e = let f : ⊥ = cc in absurd f
some_ok (a ∷ atoms) u e = omega arith

few_ok : (atoms : List WrittenAtom) (u : Unit {0}) → few_atoms atoms ≡ Ok u → length atoms ≤ 8
few_ok atoms u e =
    elim (choose (nat_lt 8 (length atoms)) _ (Ok tt) u e) [
      | inl a ↦ let f : ⊥ = let g = a.1 in cc in absurd f
      | inr b ↦ let above : nat_lt 8 (length atoms) ≡ false = b.0 in grind (arith, nat_tests)
    ]

atoms_given : (variables : List Name) (atoms : List WrittenAtom) → AllByRecursion IsWrittenAtom atoms → AllByRecursion (λ a. ArePrinted (atom_words a)) atoms → AllByRecursion (AtomIn variables) atoms → AllByRecursion (AtomGiven variables) atoms
atoms_given variables atoms good printed a =
    both_all IsWrittenAtom (λ (x : WrittenAtom). ArePrinted (atom_words x) × AtomIn variables x) atoms good (both_all (λ (x : WrittenAtom). ArePrinted (atom_words x)) (AtomIn variables) atoms printed a)

-- names of variables are well formed
terms_named : (ts : List WrittenTerm) → AllByRecursion (λ t. ArePrinted (one_word term_word t)) ts → AllByRecursion IsName (flat_map variable_of ts)
terms_named [] all = tt
terms_named (Variable n ∷ ts) all = (all.0.0.0, terms_named ts all.1)
terms_named (Constant d ∷ ts) all = terms_named ts all.1

pub joined : {A : Type 0} (P : A → Type 0) (xs ys : List A) → AllByRecursion P xs → AllByRecursion P ys → AllByRecursion P (xs ++ ys)
joined P [] ys all all' = all'
joined P (x ∷ xs) ys all all' = (all.0, joined P xs ys all.1 all')

atoms_named : (atoms : List WrittenAtom) → AllByRecursion (λ a. ArePrinted (atom_words a)) atoms → AllByRecursion IsName (variables_in atoms)
atoms_named [] all = tt
atoms_named (a ∷ atoms) all = joined IsName (flat_map variable_of a.terms) (variables_in atoms) (terms_named a.terms (parts_printed (one_word term_word) a.terms (closes ∷ []) all.0.1.1)) (atoms_named atoms all.1)

-- what a mapping that passes its checks is
pub record MappingRead (relations : List RelationSchema) (since : ℕ) (w : WrittenMapping) (m : SessionMapping) : Type 0 where
  pub valid : IsMapping relations m
  pub name : m.name ≡ w.name
  pub named : IsName m.name
  pub since_is : m.rule.since ≡ since

module _ (relations : List RelationSchema) (since : ℕ) (w : WrittenMapping) (good : IsWrittenMapping w) (printed : ArePrinted (mapping_words w)) where
  left_printed : AllByRecursion (λ a. ArePrinted (atom_words a)) w.left
  left_printed = parts_printed atom_words w.left (arrow ∷ separated atom_words w.right) printed.1.1

  right_printed : AllByRecursion (λ a. ArePrinted (atom_words a)) w.right
  right_printed = parts_printed atom_words w.right [] (subst ArePrinted (sym (append-nil (separated atom_words w.right))) (tail_printed atom_words w.left (arrow ∷ separated atom_words w.right) printed.1.1).1)

  abbrev vs : List Name
  vs = variables_in w.left

  abbrev ws : List Name
  ws = variables_in w.right

  all_in : AreIn (variables_of w) (vs ++ ws)
  all_in = (firsts_grown (vs ++ ws)).has

  names : AreNames (variables_of w)
  names = (firsts_grown (vs ++ ws)).apart tt (joined IsName vs ws (atoms_named w.left left_printed) (atoms_named w.right right_printed))

  built : (left right : List Pattern) → SideRead relations (variables_of w) w.left left → SideRead relations (variables_of w) w.right right → 1 ≤ length w.left → 1 ≤ length w.right → length w.left ≤ 8 → length w.right ≤ 8
      → MappingRead relations since w (record {
        name = w.name;
        variables = variables_of w;
        rule = record { since = since; universal = length (firsts same_name vs); existential = length (variables_of w) - length (firsts same_name vs); left = left; right = right };
      })
  built left right l r some some' few few' =
      let front = firsts_front vs ws in
      let longer : length (variables_of w) ≡ length (firsts same_name vs) + length front.0 = ap length front.1 ∙ length-append (firsts same_name vs) front.0 in
      let in_left : AreIn (variables_of w) vs = front_all (IsIn (variables_of w)) vs ws all_in in
      let first : firsts nat_eq (numbers_in left) ≡ range_with_len 0 (length (firsts same_name vs)) =
      ap (firsts nat_eq) l.numbers ∙ firsts_placed (variables_of w) vs in_left ∙ front_placed (variables_of w) (firsts same_name vs) front.0 front.1 names in
      let both : numbers_in left ++ numbers_in right ≡ map (place_of (variables_of w)) (vs ++ ws) = rw (l.numbers, r.numbers) (sym (map-append (place_of (variables_of w)) vs ws)) in
      let nil : variables_of w ≡ variables_of w ++ [] = sym (append-nil (variables_of w)) in
      let every : firsts nat_eq (numbers_in left ++ numbers_in right) ≡ range_with_len 0 (length (variables_of w)) =
      ap (firsts nat_eq) both ∙ firsts_placed (variables_of w) (vs ++ ws) all_in ∙ front_placed (variables_of w) (variables_of w) [] nil names in
      record {
        name = refl;
        named = printed.0.0;
        since_is = refl;
        valid = record {
          names = names;
          count = omega (arith, longer);
          left = (omega (arith, l.size), omega (arith, l.size), l.good);
          right = (omega (arith, r.size), omega (arith, r.size), r.good);
          universal = first;
          all = every;
        };
      }

  pub mapping_valid : (m : SessionMapping) → mapping_of relations since w ≡ Ok m → MappingRead relations since w m
  unfolding mapping_of
  mapping_valid m e =
      let a = bind_ok (some_atoms w.left) _ m e in
      let b = bind_ok (some_atoms w.right) _ m a.2 in
      let c = bind_ok (few_atoms w.left) _ m b.2 in
      let d = bind_ok (few_atoms w.right) _ m c.2 in
      let l = bind_ok (each (pattern_of relations (variables_of w)) w.left) _ m d.2 in
      let r = bind_ok (each (pattern_of relations (variables_of w)) w.right) _ m l.2 in
      let left = side_valid relations (variables_of w) w.left l.0 l.1 (atoms_given (variables_of w) w.left good.0 left_printed (atoms_in (variables_of w) w.left (front_all (IsIn (variables_of w)) vs ws all_in))) in
      let right = side_valid relations (variables_of w) w.right r.0 r.1 (atoms_given (variables_of w) w.right good.1 right_printed (atoms_in (variables_of w) w.right (back_all (IsIn (variables_of w)) vs ws all_in))) in
      subst (MappingRead relations since w) (ok_is _ m r.2) (built l.0 r.0 left right (some_ok w.left a.0 a.1) (some_ok w.right b.0 b.1) (few_ok w.left c.0 c.1) (few_ok w.right d.0 d.1))
