-- What the mappings of a valid session are to the chase: few variables, atoms of relations that are there, and a right side that is not empty.
use Rattle.std.specs.Prelude.{slice_get, nat_eq, fold, flat_map}
use Rattle.std.proofs.Common.{◌≡◌, ℕ, ◌+◌, ◌*◌, ◌≤◌, ap, refl, ◌∙◌, List, [], ◌∷◌, ◌++◌, length, length-append, Bool, true, false, not, cond, is_some, arith}
use Rattle.std.specs.List.{list_any, list_all, AllByRecursion}
use Rattle.std.proofs.lemmas.List.FromFn.{length-range_with_len}
use Rattle.def_chase.specs.Mappings.{Slot, Var, Const, Pattern, Rule}
use Rattle.def_steps.specs.Timely.{is_plain_atom}
use Rattle.def_language.specs.Names.{with_new, firsts}
use Rattle.def_language.specs.Sessions.{RelationSchema, SessionMapping}
use Rattle.def_language.specs.Checks.{rules_of}
use Rattle.def_language.specs.Validity.{IsRelation, HasColumns, IsAtom, IsMapping, number_in, numbers_in}
use Rattle.def_chase.proofs.Searches.{all_at}
use Rattle.def_chase.proofs.Bools.{both}
use Rattle.lang_session.proofs.Suiting.{no_force}

-- ---- how many different items there are

with_new_few : {A : Type 0} (same : A → A → Bool) (xs : List A) (x : A) → length (with_new same xs x) ≤ length xs + 1
with_new_few same xs x = by (list_any (same x) xs)
  where
    by : (b : Bool) → length (cond b xs (xs ++ x ∷ [])) ≤ length xs + 1
    by true = omega arith
    by false = omega (arith, length-append xs (x ∷ []))

fold_few : {A : Type 0} (same : A → A → Bool) (acc xs : List A) → length (fold (with_new same) acc xs) ≤ length acc + length xs
fold_few same acc [] = omega arith
fold_few same acc (x ∷ xs) =
    let one : length (with_new same acc x) ≤ length acc + 1 = with_new_few same acc x in
    let rest : length (fold (with_new same) (with_new same acc x) xs) ≤ length (with_new same acc x) + length xs = fold_few same (with_new same acc x) xs in
    omega arith

firsts_few : {A : Type 0} (same : A → A → Bool) (xs : List A) → length (firsts same xs) ≤ length xs
firsts_few same xs = let few : length (fold (with_new same) [] xs) ≤ 0 + length xs = fold_few same [] xs in omega arith

-- ---- the variables of atoms

slots_few : (xs : List Slot) → length (flat_map number_in xs) ≤ length xs
slots_few [] = omega arith
slots_few (Var v ∷ xs) = let rest : length (flat_map number_in xs) ≤ length xs = slots_few xs in omega arith
slots_few (Const d ∷ xs) = let rest : length (flat_map number_in xs) ≤ length xs = slots_few xs in omega arith

columns_few : (rs : List RelationSchema) → AllByRecursion IsRelation rs → (r n : ℕ) → HasColumns rs r n → n ≤ 8
columns_few rs all r n (s, there, e) = let few : s.arity ≤ 8 = (all_at IsRelation rs r s all there).1 in omega arith

atoms_few : (rs : List RelationSchema) → AllByRecursion IsRelation rs → (count : ℕ) (as' : List Pattern) → AllByRecursion (IsAtom rs count) as' → length (numbers_in as') ≤ 8 * length as'
atoms_few rs all count [] h = omega arith
atoms_few rs all count (a ∷ as') h =
    let one : length (flat_map number_in a.terms) ≤ length a.terms = slots_few a.terms in
    let columns : length a.terms ≤ 8 = columns_few rs all a.relation (length a.terms) h.0.0 in
    let rest : length (numbers_in as') ≤ 8 * length as' = atoms_few rs all count as' h.1 in
    let join : length (flat_map number_in a.terms ++ numbers_in as') ≡ length (flat_map number_in a.terms) + length (numbers_in as') = length-append (flat_map number_in a.terms) (numbers_in as') in
    omega arith

-- a mapping has at most 128 variables
variables_few : (rs : List RelationSchema) → AllByRecursion IsRelation rs → (m : SessionMapping) → IsMapping rs m → length m.variables ≤ 128
variables_few rs all m g =
    let left : length (numbers_in m.rule.left) ≤ 8 * length m.rule.left = atoms_few rs all (length m.variables) m.rule.left g.left.2 in
    let right : length (numbers_in m.rule.right) ≤ 8 * length m.rule.right = atoms_few rs all (length m.variables) m.rule.right g.right.2 in
    let few_left : length m.rule.left ≤ 8 = g.left.1 in
    let few_right : length m.rule.right ≤ 8 = g.right.1 in
    let join : length (numbers_in m.rule.left ++ numbers_in m.rule.right) ≡ length (numbers_in m.rule.left) + length (numbers_in m.rule.right) = length-append (numbers_in m.rule.left) (numbers_in m.rule.right) in
    let firsts_are : length (firsts nat_eq (numbers_in m.rule.left ++ numbers_in m.rule.right)) ≡ length m.variables = ap length g.all ∙ length-range_with_len 0 (length m.variables) in
    let few : length (firsts nat_eq (numbers_in m.rule.left ++ numbers_in m.rule.right)) ≤ length (numbers_in m.rule.left ++ numbers_in m.rule.right) = firsts_few nat_eq (numbers_in m.rule.left ++ numbers_in m.rule.right) in
    omega arith

-- ---- mappings

atoms_plain : (rs : List RelationSchema) (count : ℕ) (as' : List Pattern) → length rs ≤ 128 → AllByRecursion (IsAtom rs count) as' → list_all is_plain_atom as' ≡ true
atoms_plain rs count [] few h = refl
atoms_plain rs count (a ∷ as') few h = both (is_plain_atom a) (list_all is_plain_atom as') (ap not (no_force rs a.relation (length a.terms) few h.0.0)) (atoms_plain rs count as' few h.1)

-- What the chase needs of a mapping.
pub record IsRule (rs : List RelationSchema) (m : Rule) : Type 0 where
  pub few : m.existential ≤ 128
  pub left : list_all is_plain_atom m.left ≡ true
  pub some : is_some (slice_get m.right 0) ≡ true
  pub count : ℕ
  pub right : AllByRecursion (IsAtom rs count) m.right

first_there : {A : Type 0} (xs : List A) → 1 ≤ length xs → is_some (slice_get xs 0) ≡ true
first_there [] h = absurd (omega arith)
first_there (x ∷ xs) h = refl

mapping_rule : (rs : List RelationSchema) → length rs ≤ 128 → AllByRecursion IsRelation rs → (m : SessionMapping) → IsMapping rs m → IsRule rs m.rule
mapping_rule rs few all m g =
    record {
      few = (let n : length m.variables ≤ 128 = variables_few rs all m g in let e : length m.variables ≡ m.rule.universal + m.rule.existential = g.count in omega arith);
      left = atoms_plain rs (length m.variables) m.rule.left few g.left.2;
      some = first_there m.rule.right g.right.0;
      count = length m.variables;
      right = g.right.2;
    }

pub mapping_rules : (rs : List RelationSchema) → length rs ≤ 128 → AllByRecursion IsRelation rs → (ms : List SessionMapping) → AllByRecursion (IsMapping rs) ms → AllByRecursion (IsRule rs) (rules_of ms)
mapping_rules rs few all [] h = tt
mapping_rules rs few all (m ∷ ms) h = (mapping_rule rs few all m h.0, mapping_rules rs few all ms h.1)
