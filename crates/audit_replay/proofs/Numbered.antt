-- The first read that passes, with its number.
use Rattle.std.proofs.Common.{◌≡◌, ◌∙◌, ap, refl, sym, ℕ, suc, ◌+◌, ◌↔◌, arith, Bool, true, false, not, ◌&&◌, List, [], ◌∷◌, ◌++◌, length, Option, Some, None}
use Rattle.std.specs.Prelude.{if◌then◌else◌, option_map}
use Rattle.def_machine.specs.Reads.{first_that}
use Rattle.def_chase.proofs.Replies.{reply_is, reply_itself}
use Rattle.def_chase.specs.Mappings.{Rule}
use Rattle.def_chase.specs.Queries.{Reply, same_reply}
use Rattle.def_chase.specs.Repository.{Change}
use Rattle.def_chase.specs.Values.{Fact}
use Rattle.def_chase.specs.Violations.{Direction}
use Rattle.chase_query.specs.Meanings.{Read, read_of, reply_of}
use Rattle.chase_query.specs.declared.log.LoggedRead.{LoggedRead}
use Rattle.audit_replay.specs.Changes.{changed_at, first_after, first_change_after, is_changed, is_met_and_changed, meets, value_now}

-- Counted from n on.
abbrev counted_on : {A : Type 0} → ℕ → ℕ × A → ℕ × A
counted_on n t = (n + t.0, t.1)

one_on : {A : Type 0} (n : ℕ) (found : Option (ℕ × A)) → option_map (counted_on n) (option_map (λ (t : ℕ × A). (suc t.0, t.1)) found) ≡ option_map (counted_on (n + 1)) found
one_on n None = refl
one_on n (Some t) = let e : n + suc t.0 ≡ (n + 1) + t.0 = omega arith in λ i. Some (e i, t.1)

none_is_some : {A : Type 0} (x : A) → None ≡ Some x → ⊥
none_is_some x e = cc

some_is_none : {A : Type 0} (x : A) → Some x ≡ None → ⊥
some_is_none x e = cc

-- An option that is no value is none, and so is what is made of it.
pub no_value : {A B : Type 0} (f : A → B) (o : Option A) → ((x : A) → o ≡ Some x → ⊥) → option_map f o ≡ None
no_value f None h = refl
no_value f (Some x) h = absurd (h x refl)

-- ---- the first read that passes, list by list

module _ (p : Read → Bool) where
  -- Where no read comes before them.
  pub after_none : (rs : List Read) → first_after p 0 rs ≡ first_that p rs
  after_none rs = by (first_that p rs)
    where
      by : (o : Option (ℕ × Read)) → option_map (counted_on {A = Read} 0) o ≡ o
      by None = refl
      by (Some t) = let e : 0 + t.0 ≡ t.0 = omega arith in λ i. Some (e i, t.1)

  step : (n : ℕ) (r : Read) (rs : List Read) → first_after p n (r ∷ rs) ≡ (if p r then Some (n + 1, r) else first_after p (n + 1) rs)
  step n r rs = by (p r)
    where
      by : (b : Bool) → option_map (counted_on {A = Read} n) (if b then Some (1, r) else option_map (λ (t : ℕ × Read). (suc t.0, t.1)) (first_that p rs)) ≡ (if b then Some (n + 1, r) else first_after p (n + 1) rs)
      by true = refl
      by false = one_on n (first_that p rs)

  -- One read alone, by the test.
  pub one_after : (n : ℕ) (r : Read) (b : Bool) → p r ≡ b → (if b then Some (n + 1, r) else None) ≡ first_after p n (r ∷ [])
  one_after n r b e = ap (λ c. if c then Some (n + 1, r) else None) (sym e) ∙ sym (step n r [])

  -- What is found among the first reads is found among all.
  pub first_among : (n : ℕ) (rs qs : List Read) (x : ℕ × Read) → first_after p n rs ≡ Some x → first_after p n (rs ++ qs) ≡ Some x
  first_among n [] qs x e = absurd (none_is_some x e)
  first_among n (r ∷ rs) qs x e = step n r (rs ++ qs) ∙ by (p r) (first_among (n + 1) rs qs x) (sym (step n r rs) ∙ e)
    where
      by : (b : Bool) → (first_after p (n + 1) rs ≡ Some x → first_after p (n + 1) (rs ++ qs) ≡ Some x)
          → (if b then Some (n + 1, r) else first_after p (n + 1) rs) ≡ Some x → (if b then Some (n + 1, r) else first_after p (n + 1) (rs ++ qs)) ≡ Some x
      by true next h = h
      by false next h = next h

  -- Where it is not among the first it is the first of those after them.
  pub first_beyond : (n : ℕ) (rs qs : List Read) → first_after p n rs ≡ None → first_after p n (rs ++ qs) ≡ first_after p (n + length rs) qs
  first_beyond n [] qs e =
      let same : n ≡ n + 0 = omega arith in
      ap (λ k. first_after p k qs) same
  first_beyond n (r ∷ rs) qs e = step n r (rs ++ qs) ∙ by (p r) (first_beyond (n + 1) rs qs) (sym (step n r rs) ∙ e)
    where
      by : (b : Bool) → (first_after p (n + 1) rs ≡ None → first_after p (n + 1) (rs ++ qs) ≡ first_after p (n + 1 + length rs) qs)
          → (if b then Some (n + 1, r) else first_after p (n + 1) rs) ≡ None
          → (if b then Some (n + 1, r) else first_after p (n + 1) (rs ++ qs)) ≡ first_after p (n + suc (length rs)) qs
      by true next h = absurd (some_is_none _ h)
      by false next h =
          let same : n + 1 + length rs ≡ n + suc (length rs) = omega arith in
          next h ∙ ap (λ k. first_after p k qs) same

-- The same of what is made of it.
module _ {C : Type 0} (f : ℕ × Read → C) (p : Read → Bool) where
  pub found_among : (n : ℕ) (rs qs : List Read) (all o : Option C) (x : C) → all ≡ option_map f (first_after p n (rs ++ qs)) → o ≡ option_map f (first_after p n rs) → o ≡ Some x → Some x ≡ all
  found_among n rs qs all o x e g i = by (first_after p n rs) refl (sym g ∙ i)
    where
      by : (z : Option (ℕ × Read)) → first_after p n rs ≡ z → option_map f z ≡ Some x → Some x ≡ all
      by None k l = absurd (none_is_some x l)
      by (Some y) k l = sym (e ∙ ap (option_map f) (first_among p n rs qs y k) ∙ l)

  pub none_among : (n m : ℕ) (rs qs : List Read) (all o : Option C) → all ≡ option_map f (first_after p n (rs ++ qs)) → o ≡ option_map f (first_after p n rs) → o ≡ None → m ≡ n + length rs
      → all ≡ option_map f (first_after p m qs)
  none_among n m rs qs all o e g i j = by (first_after p n rs) refl (sym g ∙ i)
    where
      by : (z : Option (ℕ × Read)) → first_after p n rs ≡ z → option_map f z ≡ None → all ≡ option_map f (first_after p m qs)
      by None k l = e ∙ ap (option_map f) (first_beyond p n rs qs k) ∙ ap (λ a. option_map f (first_after p a qs)) (sym j)
      by (Some y) k l = absurd (some_is_none (f y) l)

-- ---- reads that have another value

-- A read has changed exactly where the answer now is not its logged one.
changed_is : (t : Bool) (a b v : Reply) → (t ≡ true) ↔ (a ≡ b) → a ≡ v → not (same_reply b v) ≡ not t
changed_is true a b v h e = ap (λ x. not (same_reply b x)) (sym (sym (h.0 refl) ∙ e)) ∙ ap not (reply_itself b)
changed_is false a b v h e = by (same_reply b v) refl
  where
    by : (s : Bool) → same_reply b v ≡ s → not (same_reply b v) ≡ true
    by true f = let no : false ≡ true = h.1 (e ∙ sym (reply_is b v f)) in absurd (cc)
    by false f = ap not f

-- So the test tells whether a read that is met has changed.
pub test_tells : (ms : List Rule) (relations : List ℕ) (h : Direction) (D : List Fact) (own : List Change) (r : LoggedRead) (t b : Bool) (a : Reply)
    → meets ms relations (read_of r).query ≡ true → a ≡ value_now ms h D own (read_of r) → (t ≡ true) ↔ (a ≡ reply_of r.answer) → t ≡ not b → is_met_and_changed ms relations h D own (read_of r) ≡ b
test_tells ms relations h D own r t b a m e s f = (λ i. m i && is_changed ms h D own (read_of r)) ∙ changed_is t a (reply_of r.answer) (value_now ms h D own (read_of r)) s e ∙ ap not f ∙ twice b
  where
    twice : (c : Bool) → not (not c) ≡ c
    twice true = refl
    twice false = refl

-- One that is not met has not.
pub unmet_tells : (ms : List Rule) (relations : List ℕ) (h : Direction) (D : List Fact) (own : List Change) (r : LoggedRead) → meets ms relations (read_of r).query ≡ false → is_met_and_changed ms relations h D own (read_of r) ≡ false
unmet_tells ms relations h D own r m = λ i. m i && is_changed ms h D own (read_of r)

-- One read alone that has changed is the change.
pub change_is : (ms : List Rule) (relations : List ℕ) (h : Direction) (D : List Fact) (own : List Change) (n : ℕ) (r : Read) (a : Reply) → a ≡ value_now ms h D own r → is_met_and_changed ms relations h D own r ≡ true
    → Some (record { number = n + 1; read = r; now = a }) ≡ first_change_after n ms relations h D own (r ∷ [])
change_is ms relations h D own n r a e f =
    (λ i. Some (record { number = n + 1; read = r; now = e i })) ∙ ap (option_map (changed_at ms h D own)) (one_after (is_met_and_changed ms relations h D own) n r true f)

-- And one that has not makes none.
pub no_change : (ms : List Rule) (relations : List ℕ) (h : Direction) (D : List Fact) (own : List Change) (n : ℕ) (r : Read) → is_met_and_changed ms relations h D own r ≡ false → None ≡ first_change_after n ms relations h D own (r ∷ [])
no_change ms relations h D own n r f = ap (option_map (changed_at ms h D own)) (one_after (is_met_and_changed ms relations h D own) n r false f)
