-- What versions stand for, after writes are published or taken back.
use Rattle.std.proofs.Common.{◌≡◌, ℕ, ◌<◌, ◌⊎◌, ap, refl, sym, ◌∙◌, subst, List, [], ◌∷◌, ◌++◌, Bool, true, false, not, ◌&&◌, cond, Option, Some, None, inl, inr}
use Rattle.std.proofs.lemmas.Bool.{cases_eq}
use Rattle.std.proofs.lemmas.Cmp.{ranked}
use Rattle.std.specs.Cmp.{IsTotalOrder, Equal-is, on_total, back_total, nat_cmp_total, tied_itself}
use Rattle.std.specs.Option.{option_or}
use Rattle.std.specs.Ordering.{is_eq, nat_cmp, MatchOrdering}
use Rattle.std.specs.declared.cmp.Ordering.{Ordering}
use Rattle.std.specs.declared.cmp.Ordering.TheVariants.{Less, Equal, Greater}
use Rattle.std.specs.declared.cmp.Reverse.{Reverse}
use Rattle.def_chase.specs.Values.{Fact, same_fact}
use Rattle.def_chase.specs.Repository.{Change, Insert, Delete, IsRepository, has}
use Rattle.set_versions.specs.Chains.{newest_cmp, AreRows}
use Rattle.set_versions.specs.Marked.{marks_at, no_marks}
use Rattle.std.specs.List.Sorted.{IsStrictlySortedBy}
use Rattle.base_types.specs.declared.tuples.Tuple.{Tuple}
use Rattle.set_versions.specs.Standing.{AreKept, Kept, known_at, StandFor, Published, Retracted, mark_in, written, last_written}
use Rattle.set_versions.specs.Based.{base_marks}
use Rattle.set_versions.specs.Touches.{touched, written_at, unwritten_at, published_at, retracted_at}
use Rattle.set_versions.specs.Trails.{no_trails}
use Rattle.set_versions.specs.declared.marks.Marks.{Marks}
use Rattle.set_versions.specs.declared.marks.Touch.TheVariants.{Mark, Unmark}
use Rattle.set_versions.proofs.Looking.{look_insert, look_without}

-- ---- one marker

newest_total : IsTotalOrder newest_cmp
newest_total = on_total (λ (k : Reverse ℕ). k.0) (back_total nat_cmp_total)

-- The number is v.
abbrev is_number : ℕ → Reverse ℕ → Bool
is_number v k = is_eq (newest_cmp (record { 0 = v }) k)

one_number : (v : ℕ) (x y : Reverse ℕ) → is_number v x ≡ true → is_number v y ≡ is_eq (newest_cmp x y)
one_number v x y h = ap is_eq (newest_total.congr (record { 0 = v }) x y ((Equal-is (newest_cmp (record { 0 = v }) x)).0 h))

itself : (n : ℕ) → is_number n (record { 0 = n }) ≡ true
itself n = ap is_eq (tied_itself nat_cmp_total n)

another : (v n : ℕ) → (v ≡ n → ⊥) → is_number v (record { 0 = n }) ≡ false
another v n h = by (nat_cmp n v) (ranked n v (nat_cmp n v) refl)
  where
    by : (o : Ordering) → MatchOrdering o (n < v) (n ≡ v) (v < n) → is_eq o ≡ false
    by Less m = refl
    by Equal m = absurd (h (sym m))
    by Greater m = refl

marked_own : (n : ℕ) (b : Bool) (m : Marks) → mark_in (touched (Mark n b) m) n ≡ Some b
marked_own n b m = look_insert newest_total (is_number n) (one_number n) m.chain (record { 0 = n }) b ∙ ap (λ c. cond c (Some b) (mark_in m n)) (itself n)

marked_other : (n v : ℕ) (b : Bool) (m : Marks) → (v ≡ n → ⊥) → mark_in (touched (Mark n b) m) v ≡ mark_in m v
marked_other n v b m h = look_insert newest_total (is_number v) (one_number v) m.chain (record { 0 = n }) b ∙ ap (λ c. cond c (Some b) (mark_in m v)) (another v n h)

unmarked_own : (n : ℕ) (m : Marks) → mark_in (touched (Unmark n) m) n ≡ None
unmarked_own n m = look_without newest_total (is_number n) (one_number n) m.chain (record { 0 = n }) ∙ ap (λ c. cond c None (mark_in m n)) (itself n)

unmarked_other : (n v : ℕ) (m : Marks) → (v ≡ n → ⊥) → mark_in (touched (Unmark n) m) v ≡ mark_in m v
unmarked_other n v m h = look_without newest_total (is_number v) (one_number v) m.chain (record { 0 = n }) ∙ ap (λ c. cond c None (mark_in m v)) (another v n h)

-- ---- writes of an update

written_own : (n : ℕ) (w : Change) (t : Fact) (m : Marks) → mark_in (written_at n w t m) n ≡ option_or (written w t) (mark_in m n)
written_own n (Insert s) t m = by (same_fact t s)
  where
    by : (c : Bool) → mark_in (cond c (touched (Mark n true) m) m) n ≡ option_or (cond c (Some true) None) (mark_in m n)
    by true = marked_own n true m
    by false = refl
written_own n (Delete s) t m = by (same_fact t s)
  where
    by : (c : Bool) → mark_in (cond c (touched (Mark n false) m) m) n ≡ option_or (cond c (Some false) None) (mark_in m n)
    by true = marked_own n false m
    by false = refl

published_own : (n : ℕ) (ws : List Change) (t : Fact) (m : Marks) → mark_in (published_at n ws t m) n ≡ last_written (mark_in m n) ws t
published_own n [] t m = refl
published_own n (w ∷ ws) t m = published_own n ws t (written_at n w t m) ∙ ap (λ o. last_written o ws t) (written_own n w t m)

-- What a touch keeps it keeps where it is done to some tuples alone.
kept_by : {X : Type 0} (f : Marks → X) (g : Marks → Marks) (m : Marks) → f (g m) ≡ f m → (c : Bool) → f (cond c (g m) m) ≡ f m
kept_by f g m h true = h
kept_by f g m h false = refl

module _ {X : Type 0} (f : Marks → X) (n : ℕ) where
  published_keeps : ((b : Bool) (m : Marks) → f (touched (Mark n b) m) ≡ f m) → (ws : List Change) (t : Fact) (m : Marks) → f (published_at n ws t m) ≡ f m
  published_keeps h [] t m = refl
  published_keeps h (Insert s ∷ ws) t m = published_keeps h ws t (written_at n (Insert s) t m) ∙ kept_by f (touched (Mark n true)) m (h true m) (same_fact t s)
  published_keeps h (Delete s ∷ ws) t m = published_keeps h ws t (written_at n (Delete s) t m) ∙ kept_by f (touched (Mark n false)) m (h false m) (same_fact t s)

  retracted_keeps : ((m : Marks) → f (touched (Unmark n) m) ≡ f m) → (ws : List Change) (t : Fact) (m : Marks) → f (retracted_at n ws t m) ≡ f m
  retracted_keeps h [] t m = refl
  retracted_keeps h (Insert s ∷ ws) t m = retracted_keeps h ws t (unwritten_at n (Insert s) t m) ∙ kept_by f (touched (Unmark n)) m (h m) (same_fact t s)
  retracted_keeps h (Delete s ∷ ws) t m = retracted_keeps h ws t (unwritten_at n (Delete s) t m) ∙ kept_by f (touched (Unmark n)) m (h m) (same_fact t s)

-- ---- trails

last_both : (m : Option Bool) (ws vs : List Change) (t : Fact) → last_written m (ws ++ vs) t ≡ last_written (last_written m ws t) vs t
last_both m [] vs t = refl
last_both m (w ∷ ws) vs t = last_both (option_or (written w t) m) ws vs t

-- ---- published

module _ (n : ℕ) (ws : List Change) (old new : Kept) (kept : AreKept new) (made : (t : Fact) → known_at new t ≡ published_at n ws t (known_at old t)) where
  pub published_stands : Published n ws old new
  published_stands D before after stood grown others = record {
    kept = kept;
    base = λ t. ap (λ (m : Marks). m.in_base) (made t) ∙ published_keeps (λ (m : Marks). m.in_base) n (λ b m. refl) ws t (known_at old t) ∙ stood.base t;
    marks = λ v t. marks v t (cases_eq v n);
  }
    where
      marks : (v : ℕ) (t : Fact) → (v ≡ n) ⊎ (v ≡ n → ⊥) → mark_in (known_at new t) v ≡ last_written None (after v) t
      marks v t (inl e) =
          let P : ℕ → Type 0 = λ k. mark_in (known_at new t) k ≡ last_written None (after k) t in
          subst P (sym e)
          (ap (λ m. mark_in m n) (made t) ∙ published_own n ws t (known_at old t) ∙ ap (λ o. last_written o ws t) (stood.marks n t)
          ∙ sym (last_both None (before n) ws t) ∙ ap (λ (xs : List Change). last_written None xs t) (sym grown))
      marks v t (inr h) =
          ap (λ m. mark_in m v) (made t) ∙ published_keeps (λ m. mark_in m v) n (λ b m. marked_other n v b m h) ws t (known_at old t)
          ∙ stood.marks v t ∙ ap (λ (xs : List Change). last_written None xs t) (sym (others v h))

-- ---- writes taken back

none_kept : (n : ℕ) (m : Marks) → mark_in m n ≡ None → (c : Bool) → mark_in (cond c (touched (Unmark n) m) m) n ≡ None
none_kept n m h true = unmarked_own n m
none_kept n m h false = h

stays_none : (n : ℕ) (ws : List Change) (t : Fact) (m : Marks) → mark_in m n ≡ None → mark_in (retracted_at n ws t m) n ≡ None
stays_none n [] t m h = h
stays_none n (Insert s ∷ ws) t m h = stays_none n ws t (unwritten_at n (Insert s) t m) (none_kept n m h (same_fact t s))
stays_none n (Delete s ∷ ws) t m h = stays_none n ws t (unwritten_at n (Delete s) t m) (none_kept n m h (same_fact t s))

retracted_own : (n : ℕ) (ws : List Change) (t : Fact) (m : Marks) → mark_in m n ≡ last_written None ws t → mark_in (retracted_at n ws t m) n ≡ None
retracted_own n [] t m h = h
retracted_own n (Insert s ∷ ws) t m h = by (same_fact t s) h (retracted_own n ws t m)
  where
    by : (c : Bool) → mark_in m n ≡ last_written (option_or (cond c (Some true) None) None) ws t → (mark_in m n ≡ last_written None ws t → mark_in (retracted_at n ws t m) n ≡ None)
        → mark_in (retracted_at n ws t (cond c (touched (Unmark n) m) m)) n ≡ None
    by true h i = stays_none n ws t (touched (Unmark n) m) (unmarked_own n m)
    by false h i = i h
retracted_own n (Delete s ∷ ws) t m h = by (same_fact t s) h (retracted_own n ws t m)
  where
    by : (c : Bool) → mark_in m n ≡ last_written (option_or (cond c (Some false) None) None) ws t → (mark_in m n ≡ last_written None ws t → mark_in (retracted_at n ws t m) n ≡ None)
        → mark_in (retracted_at n ws t (cond c (touched (Unmark n) m) m)) n ≡ None
    by true h i = stays_none n ws t (touched (Unmark n) m) (unmarked_own n m)
    by false h i = i h

module _ (n : ℕ) (ws : List Change) (old new : Kept) (kept : AreKept new) (made : (t : Fact) → known_at new t ≡ retracted_at n ws t (known_at old t)) where
  pub retracted_stands : Retracted n ws old new
  retracted_stands D before after stood its gone others = record {
    kept = kept;
    base = λ t. ap (λ (m : Marks). m.in_base) (made t) ∙ retracted_keeps (λ (m : Marks). m.in_base) n (λ m. refl) ws t (known_at old t) ∙ stood.base t;
    marks = λ v t. marks v t (cases_eq v n);
  }
    where
      marks : (v : ℕ) (t : Fact) → (v ≡ n) ⊎ (v ≡ n → ⊥) → mark_in (known_at new t) v ≡ last_written None (after v) t
      marks v t (inl e) =
          let P : ℕ → Type 0 = λ k. mark_in (known_at new t) k ≡ last_written None (after k) t in
          subst P (sym e)
          (ap (λ m. mark_in m n) (made t) ∙ retracted_own n ws t (known_at old t) (stood.marks n t ∙ ap (λ (xs : List Change). last_written None xs t) its)
          ∙ ap (λ (xs : List Change). last_written None xs t) (sym gone))
      marks v t (inr h) =
          ap (λ m. mark_in m v) (made t) ∙ retracted_keeps (λ m. mark_in m v) n (λ m. unmarked_other n v m h) ws t (known_at old t)
          ∙ stood.marks v t ∙ ap (λ (xs : List Change). last_written None xs t) (sym (others v h))

-- ---- the base alone

-- What is known of a tuple before any update has written.
abbrev unwritten : Bool → Marks
unwritten b = cond (b && true) base_marks no_marks

unwritten_base : (b : Bool) → (unwritten b).in_base ≡ b
unwritten_base true = refl
unwritten_base false = refl

unwritten_chain : (n : ℕ) (b : Bool) → mark_in (unwritten b) n ≡ None
unwritten_chain n true = refl
unwritten_chain n false = refl

empty_rows : AreRows []
unfolding IsStrictlySortedBy
empty_rows = record { order = tt; marks = tt }

-- A base of which no row tells anything.
pub based_kept : (base taken : List Fact) (rows : List (Tuple × Marks)) → IsRepository base → rows ≡ [] → AreKept (record { base = base; taken = taken; rows = rows })
based_kept base taken rows order none = record {
  order = order;
  rows = subst AreRows (sym none) empty_rows;
  apart = λ t _. ap (λ (es : List (Tuple × Marks)). marks_at es t) none;
}

pub based_stands : (D base taken : List Fact) (rows : List (Tuple × Marks)) → IsRepository base → base ≡ D → taken ≡ [] → rows ≡ [] → StandFor (record { base = base; taken = taken; rows = rows }) D no_trails
based_stands D base taken rows order same free none = record {
  kept = based_kept base taken rows order none;
  base = λ t. ap (λ (m : Marks). m.in_base) (known t) ∙ unwritten_base (has D t);
  marks = λ n t. ap (λ m. mark_in m n) (known t) ∙ unwritten_chain n (has D t);
}
  where
    known : (t : Fact) → known_at (record { base = base; taken = taken; rows = rows }) t ≡ unwritten (has D t)
    known t = λ i. cond (has (same i) t && not (has (free i) t)) base_marks (marks_at (none i) t)
