-- What is written of facts, atoms and mappings means them again.
use Rattle.std.proofs.Common.{◌≡◌, ℕ, ◌-◌, ◌<◌, ◌≤◌, true, false, List, [], ◌∷◌, ◌++◌, length, refl, sym, ap, ◌∙◌, arith}
use Rattle.std.specs.Prelude.{Result, Ok, map, nat_lt, ◌==◌, flat_map}
use Rattle.std.specs.List.{AllByRecursion}
use Rattle.std.proofs.lemmas.Bool.Decides.{nat_tests}
use Rattle.std.proofs.lemmas.List.{map-append, length-map}
use Rattle.std.proofs.lemmas.List.FromFn.{length-map-range_with_len}
use Rattle.std.proofs.lemmas.Option.{slice_get_within}
use Rattle.def_chase.specs.Values.{Datum, Number, Text, Unknown, Fact}
use Rattle.def_chase.specs.Mappings.{Slot, Var, Const, Pattern}
use Rattle.def_language.specs.Faults.{Kind}
use Rattle.def_language.specs.Reading.{each}
use Rattle.def_language.specs.Names.{Name, same_name, firsts}
use Rattle.def_language.specs.Statements.{WrittenAtom}
use Rattle.def_language.specs.Sessions.{RelationSchema, SessionMapping, relation_names}
use Rattle.def_language.specs.Meaning.{relation_of, fact_of, nulls_within, bounded_fact, variable_of, variables_in, variables_of, slot_of, pattern_of, some_atoms, few_atoms, mapping_of}
use Rattle.def_language.specs.Printing.{name_of, written_fact, written_term, written_atom, written_mapping}
use Rattle.def_language.specs.Validity.{AreNames, IsValue, HasColumns, IsFact, IsSlot, IsAtom, number_in, numbers_in, IsMapping}
use Rattle.def_language.proofs.Called.{place_again, same_places, firsts_named, all_named, Below, Apart}

-- a relation is found by its name
pub relation_again : (relations : List RelationSchema) (r columns : ℕ) → AreNames (relation_names relations) → HasColumns relations r columns
    → relation_of relations (name_of (relation_names relations) r) columns ≡ Ok r
unfolding relation_of
relation_again relations r columns names has =
    let inside : r < length relations = slice_get_within relations r has.0 has.1 in
    let within : r < length (relation_names relations) = omega (arith, length-map relations (λ (s : RelationSchema). s.name)) in
    let fits : (has.0.arity == columns) ≡ true = let e : has.0.arity ≡ columns = has.2 in grind (arith, nat_tests) in
    rw (place_again (relation_names relations) r names within, has.1, fits) refl

pub nulls_again : (most : ℕ) (ds : List Datum) → AllByRecursion (IsValue most) ds → nulls_within most ds ≡ Ok tt
unfolding nulls_within
nulls_again most [] all = refl
nulls_again most (Number z ∷ ds) all = nulls_again most ds all.1
nulls_again most (Text t ∷ ds) all = nulls_again most ds all.1
nulls_again most (Unknown n ∷ ds) all =
    let low : n.update ≤ most = all.0.1 in
    let e : nat_lt most n.update ≡ false = grind (arith, nat_tests) in
    rw e (nulls_again most ds all.1)

pub fact_means : (relations : List RelationSchema) (most : ℕ) (t : Fact) → AreNames (relation_names relations) → IsFact relations most t → bounded_fact relations most (written_fact relations t) ≡ Ok t
unfolding bounded_fact fact_of
fact_means relations most t names good = rw (relation_again relations t.relation (length t.values) names good.0, nulls_again most t.values good.1) refl

-- each of the items means what it was written of
pub each_again : {A B : Type 0} (check : A → Result B Kind) (written : B → A) (Good : B → Type 0) → ((y : B) → Good y → check (written y) ≡ Ok y) → (ys : List B) → AllByRecursion Good ys → each check (map written ys) ≡ Ok ys
unfolding each
each_again check written Good again [] all = refl
each_again check written Good again (y ∷ ys) all = rw (again y all.0, each_again check written Good again ys all.1) refl

slot_means : (variables : List Name) (slot : Slot) → AreNames variables → IsSlot (length variables) slot → slot_of variables (written_term variables slot) ≡ slot
slot_means variables (Var v) names lt = ap Var (place_again variables v names lt)
slot_means variables (Const d) names good = refl

slots_mean : (variables : List Name) (slots : List Slot) → AreNames variables → AllByRecursion (IsSlot (length variables)) slots → map (slot_of variables) (map (written_term variables) slots) ≡ slots
slots_mean variables [] names all = refl
slots_mean variables (slot ∷ slots) names all = rw (slot_means variables slot names all.0, slots_mean variables slots names all.1) refl

atom_means : (relations : List RelationSchema) (variables : List Name) → AreNames (relation_names relations) → AreNames variables → (a : Pattern) → IsAtom relations (length variables) a
    → pattern_of relations variables (written_atom relations variables a) ≡ Ok a
unfolding pattern_of
atom_means relations variables names names' a good =
    rw (length-map a.terms (written_term variables), relation_again relations a.relation (length a.terms) names good.0, slots_mean variables a.terms names' good.1) refl

-- the variables of the written atoms are the names of those of the atoms
terms_variables : (variables : List Name) (slots : List Slot) → flat_map variable_of (map (written_term variables) slots) ≡ map (name_of variables) (flat_map number_in slots)
terms_variables variables [] = refl
terms_variables variables (Var v ∷ slots) = ap (λ (ns : List Name). name_of variables v ∷ ns) (terms_variables variables slots)
terms_variables variables (Const d ∷ slots) = terms_variables variables slots

atoms_variables : (relations : List RelationSchema) (variables : List Name) (atoms : List Pattern) → variables_in (map (written_atom relations variables) atoms) ≡ map (name_of variables) (numbers_in atoms)
atoms_variables relations variables [] = refl
atoms_variables relations variables (a ∷ atoms) =
    rw (terms_variables variables a.terms, atoms_variables relations variables atoms) (sym (map-append (name_of variables) (flat_map number_in a.terms) (numbers_in atoms)))

below_both : (count : ℕ) (vs ws : List ℕ) → Below count vs → Below count ws → Below count (vs ++ ws)
below_both count [] ws all all' = all'
below_both count (v ∷ vs) ws all all' = (all.0, below_both count vs ws all.1 all')

slots_below : (count : ℕ) (slots : List Slot) → AllByRecursion (IsSlot count) slots → Below count (flat_map number_in slots)
slots_below count [] all = tt
slots_below count (Var v ∷ slots) all = (all.0, slots_below count slots all.1)
slots_below count (Const d ∷ slots) all = slots_below count slots all.1

atoms_below : (relations : List RelationSchema) (count : ℕ) (atoms : List Pattern) → AllByRecursion (IsAtom relations count) atoms → Below count (numbers_in atoms)
atoms_below relations count [] all = tt
atoms_below relations count (a ∷ atoms) all = below_both count (flat_map number_in a.terms) (numbers_in atoms) (slots_below count a.terms all.0.1) (atoms_below relations count atoms all.1)

some_again : {A : Type 0} (written : A → WrittenAtom) (xs : List A) → 1 ≤ length xs → some_atoms (map written xs) ≡ Ok tt
some_again written [] some = absurd (omega arith)
some_again written (x ∷ xs) some = refl

few_again : {A : Type 0} (written : A → WrittenAtom) (xs : List A) → length xs ≤ 8 → few_atoms (map written xs) ≡ Ok tt
few_again written xs few =
    let e : nat_lt 8 (length xs) ≡ false = grind (arith, nat_tests) in
    rw (length-map xs written, e) refl

module _ (relations : List RelationSchema) (m : SessionMapping) (names : AreNames (relation_names relations)) (good : IsMapping relations m) where
  apart : Apart (length m.variables) (name_of m.variables)
  apart v w lt lt' = same_places m.variables v w good.names lt lt'

  all_variables : variables_of (written_mapping relations m) ≡ m.variables
  all_variables =
      let vs = numbers_in m.rule.left in
      let ws = numbers_in m.rule.right in
      let f = name_of m.variables in
      let both : variables_in (map (written_atom relations m.variables) m.rule.left) ++ variables_in (map (written_atom relations m.variables) m.rule.right) ≡ map f (vs ++ ws) =
      rw (atoms_variables relations m.variables m.rule.left, atoms_variables relations m.variables m.rule.right) (sym (map-append f vs ws)) in
      ap (firsts same_name) both
      ∙ firsts_named (length m.variables) f (vs ++ ws) apart (below_both (length m.variables) vs ws (atoms_below relations (length m.variables) m.rule.left good.left.2) (atoms_below relations (length m.variables) m.rule.right good.right.2))
      ∙ ap (map f) good.all ∙ all_named m.variables

  left_variables : length (firsts same_name (variables_in (map (written_atom relations m.variables) m.rule.left))) ≡ m.rule.universal
  left_variables =
      let vs = numbers_in m.rule.left in
      let f = name_of m.variables in
      ap (λ (ns : List Name). length (firsts same_name ns)) (atoms_variables relations m.variables m.rule.left)
      ∙ ap length (firsts_named (length m.variables) f vs apart (atoms_below relations (length m.variables) m.rule.left good.left.2) ∙ ap (map f) good.universal)
      ∙ length-map-range_with_len f 0 m.rule.universal

  pub mapping_means : mapping_of relations m.rule.since (written_mapping relations m) ≡ Ok m
  unfolding mapping_of
  mapping_means =
      let rest : length m.variables - m.rule.universal ≡ m.rule.existential = omega (arith, good.count) in
      let left = each_again (pattern_of relations m.variables) (written_atom relations m.variables) (IsAtom relations (length m.variables)) (atom_means relations m.variables names good.names) m.rule.left good.left.2 in
      let right = each_again (pattern_of relations m.variables) (written_atom relations m.variables) (IsAtom relations (length m.variables)) (atom_means relations m.variables names good.names) m.rule.right good.right.2 in
      rw (
        some_again (written_atom relations m.variables) m.rule.left good.left.0,
        some_again (written_atom relations m.variables) m.rule.right good.right.0,
        few_again (written_atom relations m.variables) m.rule.left good.left.1,
        few_again (written_atom relations m.variables) m.rule.right good.right.1,
        all_variables,
        left,
        right,
        left_variables,
        rest,
      ) refl
