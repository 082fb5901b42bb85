-- A valid session is within what a program can have to do with: 64 mappings, each with at most 64 existential variables.
use Rattle.std.proofs.Common.{◌≡◌, ◌∙◌, ap, subst, ℕ, zero, suc, ◌+◌, ◌*◌, ◌≤◌, Bool, true, false, List, [], ◌∷◌, ◌++◌, length, Some, slice_get, length-append, arith}
use Rattle.std.specs.Prelude.{fold, flat_map, nat_eq, if◌then◌else◌}
use Rattle.std.specs.List.{AllByRecursion, list_any}
use Rattle.std.proofs.lemmas.List.{length-map}
use Rattle.std.proofs.lemmas.List.FromFn.{length-range_with_len}
use Rattle.std.proofs.lemmas.List.Sums.{fold-append}
use Rattle.def_chase.specs.Mappings.{Slot, Var, Const, Pattern, Rule}
use Rattle.def_chase.proofs.Searches.{all_at}
use Rattle.def_language.specs.Names.{with_new, firsts}
use Rattle.def_language.specs.Sessions.{RelationSchema, SessionMapping, SessionData}
use Rattle.def_language.specs.Checks.{rules_of}
use Rattle.def_language.specs.Validity.{IsRelation, IsAtom, number_in, numbers_in, IsMapping, IsSession}
use Rattle.base_limits.specs.Within.{AreWithin}

new_most : (seen : List ℕ) (x : ℕ) → length (with_new nat_eq seen x) ≤ length seen + 1
new_most seen x = by (list_any (nat_eq x) seen)
  where
    by : (b : Bool) → length (if b then seen else seen ++ x ∷ []) ≤ length seen + 1
    by true = omega arith
    by false = omega (arith, length-append seen (x ∷ []))

-- So many items have no more different ones.
firsts_most : (seen xs : List ℕ) → length (fold (with_new nat_eq) seen xs) ≤ length seen + length xs
firsts_most seen [] = omega arith
firsts_most seen (x ∷ xs) =
    let one : length (with_new nat_eq seen x) ≤ length seen + 1 = new_most seen x in
    let rest : length (fold (with_new nat_eq) (with_new nat_eq seen x) xs) ≤ length (with_new nat_eq seen x) + length xs = firsts_most (with_new nat_eq seen x) xs in
    omega (arith, one, rest)

slots_most : (xs : List Slot) → length (flat_map number_in xs) ≤ length xs
slots_most [] = omega arith
slots_most (Var v ∷ xs) = let rest : length (flat_map number_in xs) ≤ length xs = slots_most xs in omega (arith, rest)
slots_most (Const d ∷ xs) = let rest : length (flat_map number_in xs) ≤ length xs = slots_most xs in omega (arith, rest)

atom_most : (relations : List RelationSchema) (count : ℕ) (a : Pattern) → AllByRecursion IsRelation relations → IsAtom relations count a → length (flat_map number_in a.terms) ≤ 8
atom_most relations count a all ((s, there, is), _) =
    let most : s.arity ≤ 8 = (all_at IsRelation relations a.relation s all there).1 in
    let slots : length (flat_map number_in a.terms) ≤ length a.terms = slots_most a.terms in
    omega (arith, most, slots, is)

-- Atoms have at most 8 variables each.
atoms_most : (relations : List RelationSchema) (count : ℕ) (ps : List Pattern) → AllByRecursion IsRelation relations → AllByRecursion (IsAtom relations count) ps → length (numbers_in ps) ≤ 8 * length ps
atoms_most relations count [] all h = omega arith
atoms_most relations count (a ∷ ps) all h =
    let one : length (flat_map number_in a.terms) ≤ 8 = atom_most relations count a all h.0 in
    let rest : length (numbers_in ps) ≤ 8 * length ps = atoms_most relations count ps all h.1 in
    omega (arith, one, rest, length-append (flat_map number_in a.terms) (numbers_in ps))

-- What stands on the right alone stands in its 8 atoms.
pub few_existential : (relations : List RelationSchema) (m : SessionMapping) → AllByRecursion IsRelation relations → IsMapping relations m → m.rule.existential ≤ 64
few_existential relations m all good =
    let left = numbers_in m.rule.left in
    let right = numbers_in m.rule.right in
    let universal : length (firsts nat_eq left) ≡ m.rule.universal = ap length good.universal ∙ length-range_with_len 0 m.rule.universal in
    let every : length (firsts nat_eq (left ++ right)) ≡ length m.variables = ap length good.all ∙ length-range_with_len 0 (length m.variables) in
    let joined : length (firsts nat_eq (left ++ right)) ≡ length (fold (with_new nat_eq) (firsts nat_eq left) right) = ap length (fold-append (with_new nat_eq) [] left right) in
    let most : length (fold (with_new nat_eq) (firsts nat_eq left) right) ≤ length (firsts nat_eq left) + length right = firsts_most (firsts nat_eq left) right in
    let slots : length right ≤ 8 * length m.rule.right = atoms_most relations (length m.variables) m.rule.right all good.right.2 in
    omega (arith, universal, every, joined, most, slots, good.right.1, good.count)

each_few : (relations : List RelationSchema) (ms : List SessionMapping) → AllByRecursion IsRelation relations → AllByRecursion (IsMapping relations) ms → (n : ℕ) (r : Rule) → slice_get (rules_of ms) n ≡ Some r → r.existential ≤ 64
each_few relations [] all good n r e = cc
each_few relations (m ∷ ms) all good zero r e =
    let same : m.rule ≡ r = cc in
    let few : m.rule.existential ≤ 64 = few_existential relations m all good.0 in
    subst (λ s. s.existential ≤ 64) same few
each_few relations (m ∷ ms) all good (suc n) r e = each_few relations ms all good.1 n r e

-- A valid session's mappings are within.
pub session_within : (s : SessionData) → IsSession s → AreWithin (rules_of s.mappings)
session_within s v =
    record {
      count = omega (arith, length-map s.mappings (λ (m : SessionMapping). m.rule), v.mapping_count);
      each = each_few s.relations s.mappings v.relations v.mappings;
    }
