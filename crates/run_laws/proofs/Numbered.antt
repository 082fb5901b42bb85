-- In a valid session the variables of left sides are numbered first, so explanations are true.
use Rattle.std.specs.Prelude.{nat_eq, nat_lt, fold, flat_map}
use Rattle.std.proofs.Common.{◌≡◌, ◌∙◌, ap, refl, ℕ, zero, suc, ◌+◌, ◌≤◌, Bool, true, false, ◌||◌, cond, List, [], ◌∷◌, ◌++◌, arith}
use Rattle.std.specs.List.{list_any, list_all, range_with_len, AllByRecursion}
use Rattle.std.proofs.lemmas.Bool.{and_parts, eqb-true, lt-ltb}
use Rattle.def_chase.specs.Mappings.{Slot, Var, Const, Pattern}
use Rattle.def_chase.proofs.Bools.{differ, both}
use Rattle.def_language.specs.Checks.{rules_of}
use Rattle.def_language.specs.Names.{with_new}
use Rattle.def_language.specs.Sessions.{RelationSchema, SessionMapping, SessionData}
use Rattle.def_language.specs.Validity.{IsMapping, number_in, numbers_in}
use Rattle.def_provenance.specs.Truths.{is_below, IsNumbered, ReasonsAreTrue}
use Rattle.lang_session.specs.Meanings.{requests_in}
use Rattle.lang_session.proofs.Suiting.{mappings_no_null}
use Rattle.run_laws.specs.Explained.{ExplainsTruly}
use Rattle.run_laws.specs.Logged.{IsRun}

-- ---- what passes among the first ones passes everywhere

module _ (p : ℕ → Bool) where
  known_passes : (seen : List ℕ) (x : ℕ) → list_any (nat_eq x) seen ≡ true → list_all p seen ≡ true → p x ≡ true
  known_passes [] x e a = differ e
  known_passes (y ∷ seen) x e a = let q = and_parts (p y) (list_all p seen) a in by (nat_eq x y) refl e (λ f. known_passes seen x f q.1)
    where
      by : (b : Bool) → nat_eq x y ≡ b → (b || list_any (nat_eq x) seen) ≡ true → (list_any (nat_eq x) seen ≡ true → p x ≡ true) → p x ≡ true
      by true f g rest = ap p (eqb-true x y f) ∙ (and_parts (p y) (list_all p seen) a).0
      by false f g rest = rest g

  both_pass : (xs : List ℕ) (x : ℕ) → list_all p (xs ++ x ∷ []) ≡ true → (list_all p xs ≡ true) × (p x ≡ true)
  both_pass [] x a = (refl, (and_parts (p x) true a).0)
  both_pass (y ∷ xs) x a = let q = and_parts (p y) (list_all p (xs ++ x ∷ [])) a in let r = both_pass xs x q.1 in (both (p y) (list_all p xs) q.0 r.0, r.1)

  new_passes : (seen : List ℕ) (x : ℕ) → list_all p (with_new nat_eq seen x) ≡ true → (list_all p seen ≡ true) × (p x ≡ true)
  new_passes seen x a = by (list_any (nat_eq x) seen) refl a
    where
      by : (b : Bool) → list_any (nat_eq x) seen ≡ b → list_all p (cond b seen (seen ++ x ∷ [])) ≡ true → (list_all p seen ≡ true) × (p x ≡ true)
      by true e g = (g, known_passes seen x e g)
      by false e g = both_pass seen x g

  firsts_pass : (seen xs : List ℕ) → list_all p (fold (with_new nat_eq) seen xs) ≡ true → (list_all p seen ≡ true) × (list_all p xs ≡ true)
  firsts_pass seen [] a = (a, refl)
  firsts_pass seen (x ∷ xs) a =
      let rest = firsts_pass (with_new nat_eq seen x) xs a in
      let new = new_passes seen x rest.0 in
      (new.0, both (p x) (list_all p xs) new.1 rest.1)

range_below : (n i k : ℕ) → i + k ≤ n → list_all (λ v. nat_lt v n) (range_with_len i k) ≡ true
range_below n i zero h = refl
range_below n i (suc k) h = both (nat_lt i n) _ (lt-ltb i n (omega arith)) (range_below n (i + 1) k (omega arith))

-- ---- the variables of atoms

joined_pass : (p : ℕ → Bool) (xs ys : List ℕ) → list_all p (xs ++ ys) ≡ true → (list_all p xs ≡ true) × (list_all p ys ≡ true)
joined_pass p [] ys a = (refl, a)
joined_pass p (x ∷ xs) ys a = let q = and_parts (p x) (list_all p (xs ++ ys)) a in let r = joined_pass p xs ys q.1 in (both (p x) (list_all p xs) q.0 r.0, r.1)

slots_below : (n : ℕ) (xs : List Slot) → list_all (λ v. nat_lt v n) (flat_map number_in xs) ≡ true → list_all (is_below n) xs ≡ true
slots_below n [] a = refl
slots_below n (Var v ∷ xs) a = let q = and_parts (nat_lt v n) (list_all (λ w. nat_lt w n) (flat_map number_in xs)) a in both (nat_lt v n) _ q.0 (slots_below n xs q.1)
slots_below n (Const d ∷ xs) a = slots_below n xs a

atoms_below : (n : ℕ) (as' : List Pattern) → list_all (λ v. nat_lt v n) (numbers_in as') ≡ true → list_all (λ a. list_all (is_below n) a.terms) as' ≡ true
atoms_below n [] h = refl
atoms_below n (a ∷ as') h =
    let q = joined_pass (λ v. nat_lt v n) (flat_map number_in a.terms) (numbers_in as') h in
    both (list_all (is_below n) a.terms) _ (slots_below n a.terms q.0) (atoms_below n as' q.1)

mappings_numbered : (rs : List RelationSchema) (ms : List SessionMapping) → AllByRecursion (IsMapping rs) ms → AllByRecursion IsNumbered (rules_of ms)
mappings_numbered rs [] h = tt
mappings_numbered rs (m ∷ ms) h =
    let below : list_all (λ v. nat_lt v m.rule.universal) (range_with_len 0 m.rule.universal) ≡ true = range_below m.rule.universal 0 m.rule.universal (omega arith) in (
      atoms_below m.rule.universal m.rule.left
          (firsts_pass (λ v. nat_lt v m.rule.universal) [] (numbers_in m.rule.left) (ap (list_all (λ v. nat_lt v m.rule.universal)) h.0.universal ∙ below)).1,
      mappings_numbered rs ms h.1,
    )

pub explains_truly : ReasonsAreTrue → (budget : ℕ) (s : SessionData) → IsRun budget s → ExplainsTruly budget s
explains_truly law budget s r t reasons e =
    law (rules_of s.mappings) budget s.base (requests_in s) t reasons r.some (mappings_no_null s.relations s.mappings r.session.mappings)
    (mappings_numbered s.relations s.mappings r.session.mappings) e
