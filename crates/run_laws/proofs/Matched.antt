-- What is kept, found and matched passes: small facts for the rows of a step.
use Rattle.std.specs.Prelude.{filter, slice_get}
use Rattle.std.proofs.Common.{◌≡◌, ℕ, zero, suc, ◌<◌, ◌==◌, ap, refl, sym, ◌∙◌, List, [], ◌∷◌, length, Bool, true, false, not, cond, Option, Some, None, is_some, arith}
use Rattle.std.specs.Option.{option_and_then}
use Rattle.std.specs.List.{list_all}
use Rattle.std.proofs.lemmas.Bool.{and_parts, eqb-true}
use Rattle.def_chase.specs.Values.{Fact}
use Rattle.def_chase.specs.Repository.{Change}
use Rattle.def_chase.specs.Mappings.{Rule, Pattern, force_relation}
use Rattle.def_chase.specs.Matching.{Known, nothing_known, learn_atom, learn_terms, learn_all}
use Rattle.def_chase.specs.Violations.{Scope, violated_at, violates}
use Rattle.def_chase.proofs.Bools.{both, differ, none_some}
use Rattle.def_steps.specs.Timely.{is_plain_atom}
use Rattle.run_laws.proofs.Closed.{is_plain}

-- ---- lists

-- What passes two tests is kept by one of them with both.
pub kept_with : {A : Type 0} (p q r : A → Bool) → ((x : A) → p x ≡ true → q x ≡ true → r x ≡ true) → (xs : List A) → list_all p xs ≡ true → list_all r (filter q xs) ≡ true
kept_with p q r h [] a = refl
kept_with p q r h (x ∷ xs) a = let e = and_parts (p x) (list_all p xs) a in by (q x) refl e.0 (kept_with p q r h xs e.1)
  where
    by : (b : Bool) → q x ≡ b → p x ≡ true → list_all r (filter q xs) ≡ true → list_all r (cond b (x ∷ filter q xs) (filter q xs)) ≡ true
    by true f e rest = both (r x) (list_all r (filter q xs)) (h x e f) rest
    by false f e rest = rest

pub some_within : {A : Type 0} (xs : List A) (i : ℕ) → i < length xs → is_some (slice_get xs i) ≡ true
some_within [] i h = absurd (omega arith)
some_within (x ∷ xs) zero h = refl
some_within (x ∷ xs) (suc i) h = some_within xs i (omega arith)

-- ---- images

-- A tuple that an atom matches is of its relation.
matched_relation : (a : Pattern) (t : Fact) (k l : Known) → learn_atom a t k ≡ Some l → a.relation ≡ t.relation
matched_relation a t k l h = by (a.relation == t.relation) refl h
  where
    by : (b : Bool) → (a.relation == t.relation) ≡ b → cond b (learn_terms a.terms t.values k) None ≡ Some l → a.relation ≡ t.relation
    by true e g = eqb-true a.relation t.relation e
    by false e g = absurd (none_some l g)

-- Atoms match no tuple that says which mappings are in force.
matched_plain : (as' : List Pattern) (ts : List Fact) (k : Known) → list_all is_plain_atom as' ≡ true → is_some (learn_all as' ts k) ≡ true → list_all is_plain ts ≡ true
matched_plain [] [] k h e = refl
matched_plain [] (t ∷ ts) k h e = differ e
matched_plain (a ∷ as') [] k h e = differ e
matched_plain (a ∷ as') (t ∷ ts) k h e = let p = and_parts (is_plain_atom a) (list_all is_plain_atom as') h in by (learn_atom a t k) refl e p.0 (λ l f. matched_plain as' ts l p.1 f)
  where
    by : (o : Option Known) → learn_atom a t k ≡ o → is_some (option_and_then (learn_all as' ts) o) ≡ true → is_plain_atom a ≡ true → ((l : Known) → is_some (learn_all as' ts l) ≡ true → list_all is_plain ts ≡ true) → list_all is_plain (t ∷ ts) ≡ true
    by None f g p rest = differ g
    by (Some l) f g p rest = both (is_plain t) (list_all is_plain ts) (ap (λ r. not (r == force_relation)) (sym (matched_relation a t k l f)) ∙ p) (rest l g)

pub violated_plain : (scope : Scope) (own : List Change) (m : Rule) (E image : List Fact) → list_all is_plain_atom m.left ≡ true → violates scope own m E image ≡ true → list_all is_plain image ≡ true
violated_plain scope own m E image h v = matched_plain m.left image nothing_known h (by (learn_all m.left image nothing_known) v)
  where
    by : (o : Option Known) → violated_at scope own m E image o ≡ true → is_some o ≡ true
    by None e = differ e
    by (Some k) e = refl
