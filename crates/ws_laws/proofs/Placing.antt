-- A cause has the same place in a longer table that has it.
use Rattle.std.proofs.Common.{◌≡◌, ◌∙◌, ap, refl, subst, ℕ, suc, ◌≤◌, true, false, Bool, not, ◌&&◌, ◌||◌, nat_lt, Option, Some, None, List, [], ◌∷◌, ◌++◌, find, cond, arith}
use Rattle.std.specs.Cmp.Lexicographic.{pointwise}
use Rattle.std.proofs.lemmas.Bool.{eq-eqb, ne_eqb, ltb-true, ltb-false}
use Rattle.def_chase.specs.Values.{Fact, same_fact}
use Rattle.def_chase.proofs.Bools.{none_some, some_same, both}
use Rattle.def_chase.proofs.Sets.{same_itself}
use Rattle.def_chase.proofs.Searches.{first_some, find_join}
use Rattle.def_workspace.specs.Lines.{Source, By, Fix, Draw}
use Rattle.def_workspace.specs.Places.{Cause, Place, Places, same_source, same_cause, among, place_found, greater, greatest, found_or_more, giving}
use Rattle.def_workspace.specs.NameLaws.{Grows}
use Rattle.ws_laws.proofs.Growing.{no_more}

-- ---- numbers

-- Each of the numbers is at most m.
abbrev pub AtMost : ℕ → List ℕ → Type 0
AtMost m [] = Unit {0}
AtMost m (k ∷ ks) = (k ≤ m) × AtMost m ks

at_most_more : (m n : ℕ) (ks : List ℕ) → m ≤ n → AtMost m ks → AtMost n ks
at_most_more m n [] l a = tt
at_most_more m n (k ∷ ks) l a = let f : k ≤ m = a.0 in (omega (arith, f, l), at_most_more m n ks l a.1)

never_more : (k m : ℕ) → k ≤ m → k ≡ suc m → ⊥
never_more k m l e = absurd (omega (arith, l, e))

not_among : (m : ℕ) (ks : List ℕ) → AtMost m ks → among ks (suc m) ≡ false
not_among m [] a = refl
not_among m (k ∷ ks) a = ap (λ b. b || among ks (suc m)) (ne_eqb k (suc m) (never_more k m a.0)) ∙ not_among m ks a.1

at_most_both : (k m n : ℕ) → k ≤ m → m ≤ n → k ≤ n
at_most_both k m n a b = omega (arith, a, b)

-- ---- the greatest place

greater_than : (m n : ℕ) → (m ≤ greater m n) × (n ≤ greater m n)
greater_than m n = by (nat_lt m n) refl
  where
    by : (b : Bool) → nat_lt m n ≡ b → (m ≤ cond b n m) × (n ≤ cond b n m)
    by true e = let l : suc m ≤ n = ltb-true m n e in (omega (arith, l), omega arith)
    by false e = let l : n ≤ m = ltb-false m n e in (omega arith, omega (arith, l))

greater_least : (m n k : ℕ) → m ≤ k → n ≤ k → greater m n ≤ k
greater_least m n k f g = by (nat_lt m n)
  where
    by : (b : Bool) → cond b n m ≤ k
    by true = g
    by false = f

greatest_front : (ps qs : Places) → greatest ps ≤ greatest (ps ++ qs)
greatest_front [] qs = omega arith
greatest_front (p ∷ ps) qs =
    let t : (p.number ≤ greater p.number (greatest (ps ++ qs))) × (greatest (ps ++ qs) ≤ greater p.number (greatest (ps ++ qs))) =
    greater_than p.number (greatest (ps ++ qs)) in
    greater_least p.number (greatest ps) (greater p.number (greatest (ps ++ qs))) t.0
    (at_most_both (greatest ps) (greatest (ps ++ qs)) (greater p.number (greatest (ps ++ qs))) (greatest_front ps qs) t.1)

greatest_end : (ps : Places) (p : Place) → p.number ≤ greatest (ps ++ p ∷ [])
greatest_end [] p = (greater_than p.number 0).0
greatest_end (x ∷ ps) p =
    at_most_both p.number (greatest (ps ++ p ∷ [])) (greater x.number (greatest (ps ++ p ∷ []))) (greatest_end ps p)
    (greater_than x.number (greatest (ps ++ p ∷ []))).1

found_at_most : (q : Place → Bool) (ps : Places) (p : Place) → find q ps ≡ Some p → p.number ≤ greatest ps
found_at_most q [] p e = absurd (none_some p e)
found_at_most q (x ∷ ps) p e = by (q x) e (found_at_most q ps p)
  where
    by : (b : Bool) → cond b (Some x) (find q ps) ≡ Some p → (find q ps ≡ Some p → p.number ≤ greatest ps) → p.number ≤ greater x.number (greatest ps)
    by true f later = subst (λ (y : Place). y.number ≤ greater x.number (greatest ps)) (some_same x p f) (greater_than x.number (greatest ps)).0
    by false f later = at_most_both p.number (greatest ps) (greater x.number (greatest ps)) (later f) (greater_than x.number (greatest ps)).1

-- ---- causes

source_itself : (s : Source) → same_source s s ≡ true
source_itself (By m) = eq-eqb m m refl
source_itself (Fix m) = eq-eqb m m refl
source_itself Draw = refl

facts_themselves : (ts : List Fact) → pointwise same_fact ts ts ≡ true
facts_themselves [] = refl
facts_themselves (t ∷ ts) = both (same_fact t t) (pointwise same_fact ts ts) (same_itself t) (facts_themselves ts)

cause_itself : (c : Cause) → same_cause c c ≡ true
cause_itself c = rw (source_itself c.source, eq-eqb c.variable c.variable refl, facts_themselves c.image) refl

-- ---- a place that is given

module _ (ps : Places) (used : List ℕ) (c : Cause) where
  pub gives : Grows ps (giving ps used c).places
  gives = by (place_found ps used c)
    where
      by : (o : Option Place) → Grows ps (found_or_more o ps c).places
      by (Some p) = no_more ps
      by None = record { more = record { cause = c; number = suc (greatest ps) } ∷ []; all = refl }

  -- The places that were given in the run stand in the table.
  pub given_stand : AtMost (greatest ps) used → AtMost (greatest (giving ps used c).places) ((giving ps used c).number ∷ used)
  given_stand a = by (place_found ps used c) refl
    where
      new : Place
      new = record { cause = c; number = suc (greatest ps) }

      by : (o : Option Place) → place_found ps used c ≡ o → AtMost (greatest (found_or_more o ps c).places) ((found_or_more o ps c).number ∷ used)
      by (Some p) e = (found_at_most (λ (x : Place). same_cause x.cause c && not (among used x.number)) ps p e, a)
      by None e = (greatest_end ps new, at_most_more (greatest ps) (greatest (ps ++ new ∷ [])) used (greatest_front ps (new ∷ [])) a)

  -- In a longer table that has the place it is the same.
  pub given_again : (U : Places) → AtMost (greatest ps) used → Grows (giving ps used c).places U
      → giving U used c ≡ record { number = (giving ps used c).number; places = U }
  given_again U a g = by (place_found ps used c) refl g
    where
      test : Place → Bool
      test x = same_cause x.cause c && not (among used x.number)

      new : Place
      new = record { cause = c; number = suc (greatest ps) }

      passes : test new ≡ true
      passes = both (same_cause c c) (not (among used (suc (greatest ps)))) (cause_itself c) (ap not (not_among (greatest ps) used a))

      by : (o : Option Place) → place_found ps used c ≡ o → Grows (found_or_more o ps c).places U
          → giving U used c ≡ record { number = (found_or_more o ps c).number; places = U }
      by (Some p) e h =
          ap (λ o. found_or_more o U c)
          (ap (λ qs. place_found qs used c) h.all ∙ (find_join test ps h.more ∙ ap (λ o. first_some o (find test h.more)) e))
      by None e h =
          ap (λ o. found_or_more o U c)
          (ap (λ qs. place_found qs used c) h.all ∙ (find_join test (ps ++ new ∷ []) h.more
          ∙ (ap (λ o. first_some o (find test h.more)) (find_join test ps (new ∷ [])
          ∙ (ap (λ o. first_some o (find test (new ∷ []))) e ∙ ap (λ b. cond b (Some new) None) passes)))))
