-- What is known of each tuple, after marks of one are set.
use Rattle.std.proofs.Common.{◌≡◌, ap, refl, sym, ◌∙◌, suc, length, List, [], ◌∷◌, Bool, true, false, not, ◌&&◌, cond}
use Rattle.std.proofs.lemmas.Bool.{eqb-true}
use Rattle.std.specs.Prelude.{◌==◌}
use Rattle.base_types.specs.declared.tuples.Tuple.{Tuple}
use Rattle.def_chase.specs.Repository.{has}
use Rattle.def_chase.specs.Values.{Fact, same_fact}
use Rattle.def_chase.proofs.Bools.{differ}
use Rattle.def_chase.proofs.Sets.{same_exact}
use Rattle.set_versions.specs.Based.{base_marks}
use Rattle.set_versions.specs.Chains.{AreRows}
use Rattle.set_versions.specs.Marked.{is_based, marks_at, no_marks}
use Rattle.set_versions.specs.Standing.{AreKept, Kept, is_left, known_at}
use Rattle.set_versions.specs.declared.marks.Marks.{Marks}

based_is : (m : Marks) → is_based m ≡ true → m ≡ base_marks
based_is m h = by m.in_base m.chain h
  where
    by : (b : Bool) (l : List _) → (b && (length l == 0)) ≡ true → record { in_base = b; chain = l } ≡ base_marks
    by false l h = differ h
    by true [] h = refl
    by true (x ∷ l) h = let z : suc (length l) ≡ 0 = eqb-true (suc (length l)) 0 h in absurd (cc)

-- Tuple s has marks m: where the base has it and they say no more than that, the base tells of it again.
module _ (old : Kept) (taken : List Fact) (rows : List (Tuple × Marks)) (s : Fact) (m : Marks) (based before : Bool) (there : based ≡ has old.base s) (says : before ≡ (based && is_based m))
    (takes : (t : Fact) → has taken t ≡ cond (same_fact t s) (based && not before) (has old.taken t)) (tells : (t : Fact) → marks_at rows t ≡ cond (same_fact t s) (cond before no_marks m) (marks_at old.rows t)) where
  abbrev new : Kept
  new = record { base = old.base; taken = taken; rows = rows }

  -- What is so of s is so of a tuple that is the same.
  own : (t : Fact) → same_fact t s ≡ true → has old.base t ≡ based
  own t h = ap (has old.base) (same_exact t s h) ∙ sym there

  own_left : (t : Fact) → same_fact t s ≡ true → is_left new t ≡ (based && not (based && not before))
  own_left t h = (λ i. own t h i && not (takes t i)) ∙ ap (λ c. based && not (cond c (based && not before) (has old.taken t))) h

  own_rows : (t : Fact) → same_fact t s ≡ true → marks_at rows t ≡ cond before no_marks m
  own_rows t h = tells t ∙ ap (λ c. cond c (cond before no_marks m) (marks_at old.rows t)) h

  other_left : (t : Fact) → same_fact t s ≡ false → is_left new t ≡ is_left old t
  other_left t h = ap (λ b. has old.base t && not b) (takes t ∙ ap (λ c. cond c (based && not before) (has old.taken t)) h)

  other_rows : (t : Fact) → same_fact t s ≡ false → marks_at rows t ≡ marks_at old.rows t
  other_rows t h = tells t ∙ ap (λ c. cond c (cond before no_marks m) (marks_at old.rows t)) h

  own_known : (a b : Bool) → b ≡ (a && is_based m) → cond (a && not (a && not b)) base_marks (cond b no_marks m) ≡ m
  own_known true true e = sym (based_is m (sym e))
  own_known true false e = refl
  own_known false true e = differ (sym e)
  own_known false false e = refl

  pub known_set : (t : Fact) → known_at new t ≡ cond (same_fact t s) m (known_at old t)
  known_set t = by (same_fact t s) refl
    where
      by : (c : Bool) → same_fact t s ≡ c → known_at new t ≡ cond c m (known_at old t)
      by true h = (λ i. cond (own_left t h i) base_marks (own_rows t h i)) ∙ own_known based before says
      by false h = λ i. cond (other_left t h i) base_marks (other_rows t h i)

  own_apart : (a b : Bool) → (a && not (a && not b)) ≡ true → cond b no_marks m ≡ no_marks
  own_apart true true e = refl
  own_apart true false e = differ e
  own_apart false b e = differ e

  pub kept_set : AreKept old → AreRows rows → AreKept new
  kept_set kept order = record {
    order = kept.order;
    rows = order;
    apart = λ t. by t (same_fact t s) refl;
  }
    where
      by : (t : Fact) (c : Bool) → same_fact t s ≡ c → is_left new t ≡ true → marks_at rows t ≡ no_marks
      by t true h l = own_rows t h ∙ own_apart based before (sym (own_left t h) ∙ l)
      by t false h l = other_rows t h ∙ kept.apart t (sym (other_left t h) ∙ l)

-- What is made of what is known of s is made of what is known of t, where t is s.
pub at_itself : (f : Marks → Marks) (known : Fact → Marks) (s t : Fact) → cond (same_fact t s) (f (known s)) (known t) ≡ cond (same_fact t s) (f (known t)) (known t)
at_itself f known s t = by (same_fact t s) refl
  where
    by : (b : Bool) → same_fact t s ≡ b → cond b (f (known s)) (known t) ≡ cond b (f (known t)) (known t)
    by true e = ap (λ z. f (known z)) (sym (same_exact t s e))
    by false e = refl
