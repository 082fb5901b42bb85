-- What is undone and taken back of later updates marks no earlier line.
use Rattle.std.proofs.Common.{◌≡◌, ◌∙◌, ap, sym, refl, subst, ℕ, suc, ◌+◌, ◌<◌, true, false, Bool, not, ◌&&◌, ◌||◌, ◌==◌, List, [], ◌∷◌, ◌++◌, map, filter, length, cond, arith, ◌⊎◌, inl, inr}
use Rattle.std.specs.Prelude.{if◌then◌else◌}
use Rattle.std.specs.List.{list_any}
use Rattle.std.proofs.lemmas.Bool.{cases_eq, eq-eqb, ne_eqb, eqb-true}
use Rattle.def_chase.proofs.Bools.{first_off}
use Rattle.def_workspace.specs.Lines.{Given, Line, Says, Answers, Goes, Undoes, Redoes, Forgets, Declares}
use Rattle.def_workspace.specs.Places.{among}
use Rattle.def_workspace.specs.Worlds.{Waiting}
use Rattle.def_workspace.specs.States.{State, counts, counting, waited, is_answer_to, answers_to}
use Rattle.def_workspace.specs.UndoLaws.{is_of}

-- ---- numbers in lists

pub among_join : (ns ms : List ℕ) (m : ℕ) → among (ns ++ ms) m ≡ (among ns m || among ms m)
among_join [] ms m = refl
among_join (k ∷ ns) ms m = by (k == m) (among_join ns ms m)
  where
    by : (b : Bool) → among (ns ++ ms) m ≡ (among ns m || among ms m) → (b || among (ns ++ ms) m) ≡ ((b || among ns m) || among ms m)
    by true h = refl
    by false h = h

-- The numbers without those of a list.
pub among_without : (ns ms : List ℕ) (m : ℕ) → among (filter (λ n. not (among ns n)) ms) m ≡ (not (among ns m) && among ms m)
among_without ns [] m = by (among ns m)
  where
    by : (b : Bool) → false ≡ (not b && false)
    by true = refl
    by false = refl
among_without ns (k ∷ ms) m = by (among ns k) refl (among_without ns ms m)
  where
    dropped : (c : Bool) → (k == m) ≡ c → among ns k ≡ true → among (filter (λ n. not (among ns n)) ms) m ≡ (not (among ns m) && among ms m)
        → among (filter (λ n. not (among ns n)) ms) m ≡ (not (among ns m) && (c || among ms m))
    dropped true f e h =
        let g : among ns m ≡ true = ap (among ns) (sym (eqb-true k m f)) ∙ e in
        h ∙ (ap (λ z. not z && among ms m) g ∙ sym (ap (λ z. not z && true) g))
    dropped false f e h = h

    kept : (c : Bool) → (k == m) ≡ c → among ns k ≡ false → among (filter (λ n. not (among ns n)) ms) m ≡ (not (among ns m) && among ms m)
        → (c || among (filter (λ n. not (among ns n)) ms) m) ≡ (not (among ns m) && (c || among ms m))
    kept true f e h = let g : among ns m ≡ false = ap (among ns) (sym (eqb-true k m f)) ∙ e in sym (ap (λ z. not z && true) g)
    kept false f e h = h

    by : (b : Bool) → among ns k ≡ b → among (filter (λ n. not (among ns n)) ms) m ≡ (not (among ns m) && among ms m)
        → among (cond (not b) (k ∷ filter (λ n. not (among ns n)) ms) (filter (λ n. not (among ns n)) ms)) m ≡ (not (among ns m) && ((k == m) || among ms m))
    by true e h = dropped (k == m) refl e h
    by false e h = kept (k == m) refl e h

-- ---- lines and waiting updates of other numbers

-- No line is of one of the updates.
abbrev pub NewIn : List Line → List ℕ → Type 0
NewIn xs [] = Unit {0}
NewIn xs (n ∷ ns) = (list_any (is_of n) xs ≡ false) × NewIn xs ns

abbrev pub none_is : List ℕ → Line → Bool
none_is ns y = list_any (λ n. is_of n y) ns

pub first_new : (y : Line) (xs : List Line) (ns : List ℕ) → NewIn (y ∷ xs) ns → (none_is ns y ≡ false) × NewIn xs ns
first_new y xs [] a = (refl, tt)
first_new y xs (n ∷ ns) a =
    let p : (is_of n y ≡ false) × (list_any (is_of n) xs ≡ false) = first_off (is_of n y) (list_any (is_of n) xs) a.0 in
    let r : (none_is ns y ≡ false) × NewIn xs ns = first_new y xs ns a.1 in
    (ap (λ b. b || none_is ns y) p.0 ∙ r.0, (p.1, r.1))

-- None of the updates waits.
abbrev pub NewAmong : List Waiting → List ℕ → Type 0
NewAmong vs [] = Unit {0}
NewAmong vs (n ∷ ns) = (list_any (λ (v : Waiting). n == v.update.number) vs ≡ false) × NewAmong vs ns

first_among : (v : Waiting) (vs : List Waiting) (ns : List ℕ) → NewAmong (v ∷ vs) ns → (among ns v.update.number ≡ false) × NewAmong vs ns
first_among v vs [] a = (refl, tt)
first_among v vs (n ∷ ns) a =
    let p : ((n == v.update.number) ≡ false) × (list_any (λ (x : Waiting). n == x.update.number) vs ≡ false) =
    first_off (n == v.update.number) (list_any (λ (x : Waiting). n == x.update.number) vs) a.0 in
    let r : (among ns v.update.number ≡ false) × NewAmong vs ns = first_among v vs ns a.1 in
    (ap (λ b. b || among ns v.update.number) p.0 ∙ r.0, (p.1, r.1))

-- ---- two states that differ in the marks of some updates

-- For other updates the same is undone, and the same lost its answers.
abbrev pub Elsewhere : List ℕ → List ℕ → List ℕ → Type 0
Elsewhere ns V W = (m : ℕ) → among ns m ≡ false → among V m ≡ among W m

abbrev with_these : Waiting → List Given → Waiting
with_these v gs = record { update = v.update; answers = gs }

-- The updates with their answers, unless these were taken back.
abbrev with_answers : State → List Waiting → List Waiting
with_answers S vs = map (λ (x : Waiting). record { update = x.update; answers = if among S.cleared x.update.number then [] else x.answers }) vs

abbrev not_undone : State → List Waiting → List Waiting
not_undone S vs = filter (λ (x : Waiting). not (among S.undone x.update.number)) vs

pub same_waited : (ns : List ℕ) (S R : State) → Elsewhere ns S.undone R.undone → Elsewhere ns S.cleared R.cleared → (vs : List Waiting) → NewAmong vs ns
    → waited S vs ≡ waited R vs
same_waited ns S R u c [] a = refl
same_waited ns S R u c (v ∷ vs) a =
    by (among S.undone v.update.number) (among R.undone v.update.number)
    (u v.update.number (first_among v vs ns a).0) (same_waited ns S R u c vs (first_among v vs ns a).1)
  where
    answers : (if among S.cleared v.update.number then [] else v.answers) ≡ (if among R.cleared v.update.number then [] else v.answers)
    answers = ap (λ b. cond b [] v.answers) (c v.update.number (first_among v vs ns a).0)

    by : (b d : Bool) → b ≡ d → waited S vs ≡ waited R vs
        → with_answers S (cond (not b) (v ∷ not_undone S vs) (not_undone S vs)) ≡ with_answers R (cond (not d) (v ∷ not_undone R vs) (not_undone R vs))
    by true true e h = h
    by true false e h = cc
    by false true e h = cc
    by false false e h = λ i. with_these v (answers i) ∷ h i

-- The same lines count, if none is of an update whose marks differ.
module _ (ns : List ℕ) (S R : State) (c : ℕ) (u : Elsewhere ns S.undone R.undone) (f : (i : ℕ) → i < c → among S.forgotten i ≡ among R.forgotten i) where
  same_count : (k : ℕ) (y : Line) → k < c → none_is ns y ≡ false → counts S k y ≡ counts R k y
  same_count k (Says v) l e = ap not (u v.number e)
  same_count k (Answers m g) l e = λ i. not (u m e i) && not (f k l i)
  same_count k (Goes m) l e = λ i. not (u m e i) && not (f k l i)
  same_count k (Undoes ms) l e = refl
  same_count k (Redoes ms) l e = refl
  same_count k (Forgets ms) l e = refl
  same_count k (Declares d) l e = refl

  pub same_counting : (k n : ℕ) (xs : List Line) → n ≡ k + length xs → n ≡ c → NewIn xs ns → counting S k xs ≡ counting R k xs
  same_counting k n [] e d a = refl
  same_counting k n (y ∷ xs) e d a =
      let p : (none_is ns y ≡ false) × NewIn xs ns = first_new y xs ns a in
      let h : counts S k y ≡ counts R k y = same_count k y (omega (arith, e, d)) p.0 in
      let r : counting S (suc k) xs ≡ counting R (suc k) xs = same_counting (suc k) n xs (omega (arith, e)) d p.1 in
      λ i. cond (h i) (y ∷ r i) (r i)

-- ---- answers that are taken back

-- No answer to these updates is among lines that are not of them.
pub answers_past : (ns : List ℕ) (k n : ℕ) (xs ys : List Line) → n ≡ k + length xs → NewIn xs ns → answers_to ns k (xs ++ ys) ≡ answers_to ns n ys
answers_past ns k n [] ys e a = ap (λ j. answers_to ns j ys) here
  where
    here : k ≡ n
    here = omega (arith, e)
answers_past ns k n (x ∷ xs) ys e a =
    ap (λ b. cond b (k ∷ answers_to ns (suc k) (xs ++ ys)) (answers_to ns (suc k) (xs ++ ys))) (by x (first_new x xs ns a).0)
    ∙ answers_past ns (suc k) n xs ys (omega (arith, e)) (first_new x xs ns a).1
  where
    by : (y : Line) → none_is ns y ≡ false → is_answer_to ns y ≡ false
    by (Says v) h = refl
    by (Answers m g) h = h
    by (Goes m) h = h
    by (Undoes ms) h = refl
    by (Redoes ms) h = refl
    by (Forgets ms) h = refl
    by (Declares d) h = refl

not_first : (n k : ℕ) → k < n → (n == k) ≡ false
not_first n k l = ne_eqb n k (λ e. absurd (omega (arith, e, l)))

pub answers_above : (ns : List ℕ) (n k : ℕ) (xs : List Line) → k < n → among (answers_to ns n xs) k ≡ false
answers_above ns n k [] l = refl
answers_above ns n k (x ∷ xs) l = by (is_answer_to ns x) (answers_above ns (suc n) k xs (omega (arith, l)))
  where
    by : (b : Bool) → among (answers_to ns (suc n) xs) k ≡ false → among (cond b (n ∷ answers_to ns (suc n) xs) (answers_to ns (suc n) xs)) k ≡ false
    by true h = ap (λ b. b || among (answers_to ns (suc n) xs) k) (not_first n k l) ∙ h
    by false h = h

same_shift : (c j i : ℕ) → (c + j == c + i) ≡ (j == i)
same_shift c j i = by (cases_eq j i)
  where
    by : (j ≡ i) ⊎ (j ≡ i → ⊥) → (c + j == c + i) ≡ (j == i)
    by (inl e) = eq-eqb (c + j) (c + i) (ap (λ k. c + k) e) ∙ sym (eq-eqb j i e)
    by (inr n) = ne_eqb (c + j) (c + i) (λ e. n (omega (arith, e))) ∙ sym (ne_eqb j i n)

-- The places of answers among lines that stand c places later.
pub answers_shifted : (ns : List ℕ) (c k j i : ℕ) (xs : List Line) → k ≡ c + j → among (answers_to ns k xs) (c + i) ≡ among (answers_to ns j xs) i
answers_shifted ns c k j i [] e = refl
answers_shifted ns c k j i (x ∷ xs) e = by (is_answer_to ns x) (answers_shifted ns c (suc k) (suc j) i xs (omega (arith, e)))
  where
    by : (b : Bool) → among (answers_to ns (suc k) xs) (c + i) ≡ among (answers_to ns (suc j) xs) i
        → among (cond b (k ∷ answers_to ns (suc k) xs) (answers_to ns (suc k) xs)) (c + i) ≡ among (cond b (j ∷ answers_to ns (suc j) xs) (answers_to ns (suc j) xs)) i
    by true h = λ p. (ap (λ m. m == c + i) e ∙ same_shift c j i) p || h p
    by false h = h

-- ---- lines with the same marks

-- The line at place c + j of the one log is marked as it is at place j of the other. V and W are what is undone, P and Q what is
-- forgotten.
abbrev pub Marked : List ℕ → List ℕ → List ℕ → List ℕ → ℕ → ℕ → Line → Type 0
Marked V W P Q c j (Says u) = among V u.number ≡ among W u.number
Marked V W P Q c j (Answers n g) = (among V n ≡ among W n) × (among P (c + j) ≡ among Q j)
Marked V W P Q c j (Goes n) = (among V n ≡ among W n) × (among P (c + j) ≡ among Q j)
Marked V W P Q c j (Undoes ns) = Unit {0}
Marked V W P Q c j (Redoes ns) = Unit {0}
Marked V W P Q c j (Forgets ns) = Unit {0}
Marked V W P Q c j (Declares d) = Unit {0}

abbrev pub AllMarked : List ℕ → List ℕ → List ℕ → List ℕ → ℕ → ℕ → List Line → Type 0
AllMarked V W P Q c j [] = Unit {0}
AllMarked V W P Q c j (x ∷ xs) = Marked V W P Q c j x × AllMarked V W P Q c (suc j) xs

pub marked_end : (V W P Q : List ℕ) (c j n : ℕ) (xs : List Line) (x : Line) → n ≡ j + length xs → AllMarked V W P Q c j xs → Marked V W P Q c n x
    → AllMarked V W P Q c j (xs ++ x ∷ [])
marked_end V W P Q c j n [] x e a m = (subst (λ k. Marked V W P Q c k x) here m, tt)
  where
    here : n ≡ j
    here = omega (arith, e)
marked_end V W P Q c j n (y ∷ xs) x e a m = (a.0, marked_end V W P Q c (suc j) n xs x (omega (arith, e)) a.1 m)

-- Marks that change alike.
module _ (V W P Q V' W' P' Q' : List ℕ) (c : ℕ) (undone : (m : ℕ) → among V m ≡ among W m → among V' m ≡ among W' m)
    (forgotten : (i : ℕ) → among P (c + i) ≡ among Q i → among P' (c + i) ≡ among Q' i) where
  marked_still : (j : ℕ) (x : Line) → Marked V W P Q c j x → Marked V' W' P' Q' c j x
  marked_still j (Says u) a = undone u.number a
  marked_still j (Answers n g) a = (undone n a.0, forgotten j a.1)
  marked_still j (Goes n) a = (undone n a.0, forgotten j a.1)
  marked_still j (Undoes ns) a = tt
  marked_still j (Redoes ns) a = tt
  marked_still j (Forgets ns) a = tt
  marked_still j (Declares d) a = tt

  pub all_marked_still : (j : ℕ) (xs : List Line) → AllMarked V W P Q c j xs → AllMarked V' W' P' Q' c j xs
  all_marked_still j [] a = tt
  all_marked_still j (x ∷ xs) a = (marked_still j x a.0, all_marked_still (suc j) xs a.1)

-- Lines that are marked alike count alike.
module _ (S R : State) (c : ℕ) where
  abbrev Alike : ℕ → Line → Type 0
  Alike j x = Marked S.undone R.undone S.forgotten R.forgotten c j x

  marked_count : (k j : ℕ) (x : Line) → k ≡ c + j → Alike j x → counts S k x ≡ counts R j x
  marked_count k j (Says u) e a = ap not a
  marked_count k j (Answers n g) e a = λ i. not (a.0 i) && not ((ap (among S.forgotten) e ∙ a.1) i)
  marked_count k j (Goes n) e a = λ i. not (a.0 i) && not ((ap (among S.forgotten) e ∙ a.1) i)
  marked_count k j (Undoes ns) e a = refl
  marked_count k j (Redoes ns) e a = refl
  marked_count k j (Forgets ns) e a = refl
  marked_count k j (Declares d) e a = refl

  pub marked_counting : (k j : ℕ) (xs : List Line) → k ≡ c + j → AllMarked S.undone R.undone S.forgotten R.forgotten c j xs → counting S k xs ≡ counting R j xs
  marked_counting k j [] e a = refl
  marked_counting k j (x ∷ xs) e a =
      let h : counts S k x ≡ counts R j x = marked_count k j x e a.0 in
      let r : counting S (suc k) xs ≡ counting R (suc j) xs = marked_counting (suc k) (suc j) xs (omega (arith, e)) a.1 in
      λ i. cond (h i) (x ∷ r i) (r i)
