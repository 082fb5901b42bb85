-- Sets of tuples that are apart by relation, and the one set that they are together.
use Rattle.std.proofs.Common.{◌≡◌, ◌∙◌, ℕ, zero, suc, ◌+◌, ◌-◌, ◌<◌, ◌≤◌, false, ◌||◌, List, [], ◌∷◌, ◌++◌, length, get_or, drop, refl, sym, ap, arith, subst, append_assoc, length-append}
use Rattle.std.specs.Prelude.{slice_set, ◌==◌, nat_le}
use Rattle.std.specs.BTreeSet.{insert_key}
use Rattle.std.specs.Cmp.Lexicographic.{slice_cmp}
use Rattle.std.specs.List.{AllByRecursion}
use Rattle.std.specs.Ordering.{nat_cmp, ordering_then, match_ordering, MatchOrdering}
use Rattle.std.specs.declared.cmp.Ordering.{Ordering}
use Rattle.std.specs.declared.cmp.Ordering.TheVariants.{Less, Equal, Greater}
use Rattle.std.proofs.lemmas.Bool.Decides.{nat_tests}
use Rattle.std.proofs.lemmas.Cmp.{ranked}
use Rattle.std.proofs.lemmas.List.{at_drop_more, at_drop_all}
use Rattle.std.proofs.lemmas.List.Folds.{list_any-append}
use Rattle.def_chase.specs.Values.{Fact, datum_cmp, fact_cmp, same_fact}
use Rattle.def_chase.specs.Repository.{has}
use Rattle.def_language.proofs.Grows.{insert_all}
use Rattle.lang_checks.specs.Bases.{gathered, AreApart}
use Rattle.lang_checks.proofs.Bits.{or_false}

-- ---- tuples of other relations

before : (t u : Fact) → t.relation < u.relation → fact_cmp t u ≡ Less
before t u lt = by (nat_cmp t.relation u.relation) (ranked t.relation u.relation _ refl) where
  by : (o : Ordering) → MatchOrdering o (t.relation < u.relation) (t.relation ≡ u.relation) (u.relation < t.relation) → ordering_then o (slice_cmp datum_cmp t.values u.values) ≡ Less
  by Less m = refl
  by Equal m = absurd (omega arith)
  by Greater m = absurd (omega arith)

after : (t u : Fact) → u.relation < t.relation → fact_cmp t u ≡ Greater
after t u lt = by (nat_cmp t.relation u.relation) (ranked t.relation u.relation _ refl) where
  by : (o : Ordering) → MatchOrdering o (t.relation < u.relation) (t.relation ≡ u.relation) (u.relation < t.relation) → ordering_then o (slice_cmp datum_cmp t.values u.values) ≡ Greater
  by Less m = absurd (omega arith)
  by Equal m = absurd (omega arith)
  by Greater m = refl

-- all are of lesser relations, or of greater ones
abbrev AreBelow : ℕ → List Fact → Type 0
AreBelow r D = AllByRecursion (λ u. u.relation < r) D

abbrev AreAbove : ℕ → List Fact → Type 0
AreAbove r D = AllByRecursion (λ u. r < u.relation) D

put_after : (D E : List Fact) (t : Fact) → AreBelow t.relation D → insert_key fact_cmp (D ++ E) t ≡ D ++ insert_key fact_cmp E t
put_after [] E t a = refl
put_after (u ∷ D) E t a = rw (after t u a.0) (ap (λ l. u ∷ l) (put_after D E t a.1))

put_before : (D E : List Fact) (t : Fact) → AreAbove t.relation E → insert_key fact_cmp (D ++ E) t ≡ insert_key fact_cmp D t ++ E
put_before [] [] t a = refl
put_before [] (v ∷ E) t a = rw (before t v a.0) refl
put_before (u ∷ D) E t a = by (put_before D E t a) (fact_cmp t u) where
  by : insert_key fact_cmp (D ++ E) t ≡ insert_key fact_cmp D t ++ E → (o : Ordering)
      → match_ordering o (t ∷ u ∷ D ++ E) (u ∷ D ++ E) (u ∷ insert_key fact_cmp (D ++ E) t) ≡ match_ordering o (t ∷ u ∷ D) (u ∷ D) (u ∷ insert_key fact_cmp D t) ++ E
  by others Less = refl
  by others Equal = refl
  by others Greater = ap (λ l. u ∷ l) others

none_above : (D : List Fact) (t : Fact) → AreAbove t.relation D → has D t ≡ false
none_above [] t a = refl
none_above (u ∷ D) t a = rw (before t u a.0) (none_above D t a.1)

none_below : (D : List Fact) (t : Fact) → AreBelow t.relation D → has D t ≡ false
none_below [] t a = refl
none_below (u ∷ D) t a = rw (after t u a.0) (none_below D t a.1)

-- ---- sets that are apart

both : (P : Fact → Type 0) (D E : List Fact) → AllByRecursion P D → AllByRecursion P E → AllByRecursion P (D ++ E)
both P [] E a b = b
both P (u ∷ D) E a b = (a.0, both P D E a.1 b)

greater : (n r : ℕ) (D : List Fact) → r < n → AllByRecursion (λ u. u.relation ≡ n) D → AreAbove r D
greater n r [] lt a = tt
greater n r (u ∷ D) lt a = (subst (λ k. r < k) (sym a.0) lt, greater n r D lt a.1)

lesser : (n r : ℕ) (D : List Fact) → n < r → AllByRecursion (λ u. u.relation ≡ n) D → AreBelow r D
lesser n r [] lt a = tt
lesser n r (u ∷ D) lt a = (subst (λ k. k < r) (sym a.0) lt, lesser n r D lt a.1)

later : (n r : ℕ) (Ds : List (List Fact)) → r < n → AreApart n Ds → AreAbove r (gathered Ds)
later n r [] lt a = tt
later n r (D ∷ Ds) lt a = both (λ u. r < u.relation) D (gathered Ds) (greater n r D lt a.0) (later (suc n) r Ds (omega arith) a.1)

-- What is put into the set of its relation is put into the whole.
pub put_apart : (n : ℕ) (Ds : List (List Fact)) (i : ℕ) (D E : List Fact) (t : Fact) → AreApart n Ds → i < length Ds → D ≡ get_or Ds i D → t.relation ≡ n + i → E ≡ insert_key fact_cmp D t → gathered (slice_set Ds i E) ≡ insert_key fact_cmp (gathered Ds) t
put_apart n [] i D E t a lt is r put = absurd (omega arith)
put_apart n (F ∷ Ds) zero D E t a lt is r put =
    ap (λ G. G ++ gathered Ds) (put ∙ ap (λ G. insert_key fact_cmp G t) is) ∙ sym (put_before F (gathered Ds) t (later (suc n) t.relation Ds (omega arith) a.1))
put_apart n (F ∷ Ds) (suc i) D E t a lt is r put =
    ap (λ l. F ++ l) (put_apart (suc n) Ds i D E t a.1 (omega arith) is (omega arith) put) ∙ sym (put_after F (gathered Ds) t (lesser n t.relation F (omega arith) a.0))

pub kept_apart : (n : ℕ) (Ds : List (List Fact)) (i : ℕ) (D E : List Fact) (t : Fact) → AreApart n Ds → i < length Ds → D ≡ get_or Ds i D → t.relation ≡ n + i → E ≡ insert_key fact_cmp D t → AreApart n (slice_set Ds i E)
kept_apart n [] i D E t a lt is r put = absurd (omega arith)
kept_apart n (F ∷ Ds) zero D E t a lt is r put =
    let all : AllByRecursion (λ u. u.relation ≡ n) D = subst (AllByRecursion (λ u. u.relation ≡ n)) (sym is) a.0 in
    (subst (AllByRecursion (λ u. u.relation ≡ n)) (sym put) (insert_all (λ u. u.relation ≡ n) D t all (omega arith)), a.1)
kept_apart n (F ∷ Ds) (suc i) D E t a lt is r put = (a.0, kept_apart (suc n) Ds i D E t a.1 (omega arith) is (omega arith) put)

-- What is sought in the set of its relation is sought in the whole.
pub sought_apart : (n : ℕ) (Ds : List (List Fact)) (i : ℕ) (D : List Fact) (t : Fact) → AreApart n Ds → i < length Ds → D ≡ get_or Ds i D → t.relation ≡ n + i → has D t ≡ has (gathered Ds) t
sought_apart n [] i D t a lt is r = absurd (omega arith)
sought_apart n (E ∷ Ds) zero D t a lt is r =
    ap (λ F. has F t) is ∙ sym (or_false (has E t)) ∙ ap (λ b. has E t || b) (sym (none_above (gathered Ds) t (later (suc n) t.relation Ds (omega arith) a.1))) ∙ sym (list_any-append (same_fact t) E (gathered Ds))
sought_apart n (E ∷ Ds) (suc i) D t a lt is r =
    sought_apart (suc n) Ds i D t a.1 (omega arith) is (omega arith) ∙ ap (λ b. b || has (gathered Ds) t) (sym (none_below E t (lesser n t.relation E (omega arith) a.0))) ∙ sym (list_any-append (same_fact t) E (gathered Ds))

-- A relation that has no set has no tuple.
pub absent_beyond : (n : ℕ) (Ds : List (List Fact)) (t : Fact) → AreApart n Ds → n + length Ds ≤ t.relation → has (gathered Ds) t ≡ false
absent_beyond n [] t a le = refl
absent_beyond n (D ∷ Ds) t a le =
    list_any-append (same_fact t) D (gathered Ds) ∙ ap (λ b. b || has (gathered Ds) t) (none_below D t (lesser n t.relation D (omega arith) a.0)) ∙ absent_beyond (suc n) Ds t a.1 (omega arith)

-- ---- one more set, and one that stays

pub gathered_more : (Ds : List (List Fact)) → gathered (Ds ++ [] ∷ []) ≡ gathered Ds
gathered_more [] = refl
gathered_more (D ∷ Ds) = ap (λ l. D ++ l) (gathered_more Ds)

pub apart_more : (n : ℕ) (Ds : List (List Fact)) → AreApart n Ds → AreApart n (Ds ++ [] ∷ [])
apart_more n [] a = (tt, tt)
apart_more n (D ∷ Ds) a = (a.0, apart_more (suc n) Ds a.1)

pub stays : (Ds : List (List Fact)) (i : ℕ) (D E : List Fact) → D ≡ get_or Ds i D → E ≡ D → slice_set Ds i E ≡ Ds
stays [] i D E is e = refl
stays (F ∷ Ds) zero D E is e = ap (λ G. G ∷ Ds) (e ∙ is)
stays (F ∷ Ds) (suc i) D E is e = ap (λ Gs. F ∷ Gs) (stays Ds i D E is e)

pub gathered_last : (Ds : List (List Fact)) (D : List Fact) → gathered (Ds ++ D ∷ []) ≡ gathered Ds ++ D
gathered_last [] [] = refl
gathered_last [] (u ∷ D) = ap (λ l. u ∷ l) (gathered_last [] D)
gathered_last (E ∷ Ds) D = ap (λ l. E ++ l) (gathered_last Ds D) ∙ sym (append_assoc E (gathered Ds) D)

-- ---- how many

pub counted_next : (Ds : List (List Fact)) (i left count next rest : ℕ) (D : List Fact) → i < length Ds → D ≡ get_or Ds i D → left - length (gathered (drop i Ds)) ≡ rest → count ≡ length D → next ≡ left - count → next - length (gathered (drop (i + 1) Ds)) ≡ rest
counted_next Ds i left count next rest D lt is so_far c n =
    let step : length (gathered (drop i Ds)) ≡ length (get_or Ds i D ++ gathered (drop (i + 1) Ds)) = at_drop_more (λ Es. length (gathered Es)) Ds i D lt in
    let sum = length-append (get_or Ds i D) (gathered (drop (i + 1) Ds)) in
    let same = ap length is in
    omega arith

pub all_counted : (Ds : List (List Fact)) (i left most : ℕ) → length Ds ≤ i → left - length (gathered (drop i Ds)) ≡ most - length (gathered Ds) → (left == 0) ≡ nat_le most (length (gathered Ds))
all_counted Ds i left most le so_far =
    let none : length (gathered (drop i Ds)) ≡ 0 = at_drop_all (λ Es. length (gathered Es)) Ds i le in
    test (length (gathered Ds)) (omega arith)
  where
    test : (count : ℕ) → left ≡ most - count → (left == 0) ≡ nat_le most count
    test count e = grind (arith, nat_tests)
