-- The first read that passes, list by list.
use Rattle.std.proofs.Common.{◌≡◌, ◌∙◌, ap, refl, sym, arith, ℕ, suc, ◌+◌, ◌↔◌, Bool, true, false, not, ◌&&◌, List, [], ◌∷◌, ◌++◌, take, length, Option, Some, None}
use Rattle.std.specs.Prelude.{if◌then◌else◌}
use Rattle.std.specs.Option.{option_map}
use Rattle.def_chase.specs.Values.{Fact}
use Rattle.def_chase.specs.Repository.{Change}
use Rattle.def_chase.specs.Mappings.{Rule}
use Rattle.def_chase.specs.Violations.{Direction, Caused}
use Rattle.chase_eval.specs.Seen.{Seen}
use Rattle.def_chase.specs.Queries.{Reply, same_reply, value}
use Rattle.def_chase.proofs.Replies.{reply_is, reply_itself}
use Rattle.chase_query.specs.declared.log.LoggedRead.{LoggedRead}
use Rattle.chase_query.specs.Meanings.{Read, read_of, reply_of}
use Rattle.core_conflict.specs.Concerns.{is_met}
use Rattle.core_conflict.specs.declared.concerns.Sense.{Sense}
use Rattle.core_conflict.specs.Changes.{Changed, Numbered, is_changed, is_met_and_changed, value_now, first_from, first_changed_from}

none_is_some : {A : Type 0} (x : A) → None ≡ Some x → ⊥
none_is_some x e = cc

some_is_none : {A : Type 0} (x : A) → Some x ≡ None → ⊥
some_is_none x e = cc

module _ (p : Read → Bool) where
  -- What is found among the first reads is found among all.
  pub first_among : (n : ℕ) (rs qs : List Read) (x : Numbered) → first_from p n rs ≡ Some x → first_from p n (rs ++ qs) ≡ Some x
  first_among n [] qs x e = absurd (none_is_some x e)
  first_among n (r ∷ rs) qs x e = by (p r) (first_among (suc n) rs qs x) e
    where
      by : (b : Bool) → (first_from p (suc n) rs ≡ Some x → first_from p (suc n) (rs ++ qs) ≡ Some x)
          → (if b then Some (record { number = n; read = r }) else first_from p (suc n) rs) ≡ Some x
          → (if b then Some (record { number = n; read = r }) else first_from p (suc n) (rs ++ qs)) ≡ Some x
      by true next h = h
      by false next h = next h

  -- Where it is not among the first it is the first of those after them.
  pub first_after : (n : ℕ) (rs qs : List Read) → first_from p n rs ≡ None → first_from p n (rs ++ qs) ≡ first_from p (n + length rs) qs
  first_after n [] qs e =
      let same : n ≡ n + 0 = omega arith in
      ap (λ k. first_from p k qs) same
  first_after n (r ∷ rs) qs e = by (p r) (first_after (suc n) rs qs) e
    where
      by : (b : Bool) → (first_from p (suc n) rs ≡ None → first_from p (suc n) (rs ++ qs) ≡ first_from p (suc n + length rs) qs)
          → (if b then Some (record { number = n; read = r }) else first_from p (suc n) rs) ≡ None
          → (if b then Some (record { number = n; read = r }) else first_from p (suc n) (rs ++ qs)) ≡ first_from p (n + suc (length rs)) qs
      by true next h = absurd (some_is_none _ h)
      by false next h =
          let same : suc n + length rs ≡ n + suc (length rs) = omega arith in
          next h ∙ ap (λ k. first_from p k qs) same

module _ (ms : List Rule) (h : Direction) (D : List Fact) (own : List Change) (g : Sense) (ts : List (List Change)) where
  -- With its value now.
  abbrev with_now : Numbered → Changed
  with_now r = record { number = r.number; read = r.read; now = value_now ms h D own r.read }

  -- That of the first reads is that of all.
  pub found_among : (n : ℕ) (rs qs : List Read) (all o : Option Changed) (x : Changed) → all ≡ first_changed_from ms h D own g ts n (rs ++ qs) → o ≡ first_changed_from ms h D own g ts n rs → o ≡ Some x → Some x ≡ all
  found_among n rs qs all o x e f i = by (first_from (is_met_and_changed ms h D own g ts) n rs) refl (sym f ∙ i)
    where
      by : (z : Option Numbered) → first_from (is_met_and_changed ms h D own g ts) n rs ≡ z → option_map with_now z ≡ Some x → Some x ≡ all
      by None k l = absurd (none_is_some x l)
      by (Some y) k l = sym (e ∙ ap (option_map with_now) (first_among (is_met_and_changed ms h D own g ts) n rs qs y k) ∙ l)

  -- Where there is none it is that of those after them.
  pub none_among : (n m : ℕ) (rs qs : List Read) (all o : Option Changed) → all ≡ first_changed_from ms h D own g ts n (rs ++ qs) → o ≡ first_changed_from ms h D own g ts n rs → o ≡ None → m ≡ n + length rs
      → all ≡ first_changed_from ms h D own g ts m qs
  none_among n m rs qs all o e f i j = by (first_from (is_met_and_changed ms h D own g ts) n rs) refl (sym f ∙ i)
    where
      by : (z : Option Numbered) → first_from (is_met_and_changed ms h D own g ts) n rs ≡ z → option_map with_now z ≡ None → all ≡ first_changed_from ms h D own g ts m qs
      by None k l = e ∙ ap (option_map with_now) (first_after (is_met_and_changed ms h D own g ts) n rs qs k) ∙ ap (λ a. first_changed_from ms h D own g ts a qs) (sym j)
      by (Some y) k l = absurd (some_is_none (with_now y) l)

-- An option that is no value is none, and so is what is made of it.
pub no_value : {A B : Type 0} (f : A → B) (o : Option A) → ((x : A) → o ≡ Some x → ⊥) → option_map f o ≡ None
no_value f None h = refl
no_value f (Some x) h = absurd (h x refl)

-- A read has changed exactly where the answer now is not its logged one.
pub changed_is : (t : Bool) (a b v : Reply) → (t ≡ true) ↔ (a ≡ b) → a ≡ v → not (same_reply b v) ≡ not t
changed_is true a b v h e = ap (λ x. not (same_reply b x)) (sym (sym (h.0 refl) ∙ e)) ∙ ap not (reply_itself b)
changed_is false a b v h e = by (same_reply b v) refl
  where
    by : (s : Bool) → same_reply b v ≡ s → not (same_reply b v) ≡ true
    by true f = let no : false ≡ true = h.1 (e ∙ sym (reply_is b v f)) in absurd (cc)
    by false f = ap not f

-- What an eval over the view that a read had then is its value now.
pub seen_then : (ms : List Rule) (h : Direction) (D : List Fact) (own : List Change) (r : LoggedRead) (v : Seen) (n : ℕ) (a : Reply)
    → v ≡ record { below = D; own = take n own } → take n own ≡ take r.own own → a ≡ value ms (read_of r).query v.below v.own (Caused h) → a ≡ value_now ms h D own (read_of r)
seen_then ms h D own r v n a e f k = k ∙ ap (λ (w : Seen). value ms (read_of r).query w.below w.own (Caused h)) e ∙ ap (λ ws. value ms (read_of r).query D ws (Caused h)) f

-- So the test tells whether a read that is met has changed.
test_tells : (ms : List Rule) (h : Direction) (D : List Fact) (own : List Change) (g : Sense) (ts : List (List Change)) (r : LoggedRead) (t : Bool) (a : Reply)
    → is_met ms h own g ts (read_of r) ≡ true → a ≡ value_now ms h D own (read_of r) → (t ≡ true) ↔ (a ≡ reply_of r.answer) → is_met_and_changed ms h D own g ts (read_of r) ≡ not t
test_tells ms h D own g ts r t a m e s = (λ i. m i && is_changed ms h D own (read_of r)) ∙ changed_is t a (reply_of r.answer) (value_now ms h D own (read_of r)) s e

-- One read alone, by that test.
one_by : (ms : List Rule) (h : Direction) (D : List Fact) (own : List Change) (g : Sense) (ts : List (List Change)) (n : ℕ) (r : Read) (b : Bool) → is_met_and_changed ms h D own g ts r ≡ b
    → (if b then Some (record { number = n; read = r; now = value_now ms h D own r }) else None) ≡ first_changed_from ms h D own g ts n (r ∷ [])
one_by ms h D own g ts n r b e =
    by b ∙ sym (ap (λ c. option_map (λ (x : Numbered). record { number = x.number; read = x.read; now = value_now ms h D own x.read }) (if c then Some (record { number = n; read = r }) else None)) e)
  where
    by : (b : Bool) → ◌≡◌ {A = Option Changed} (if b then Some (record { number = n; read = r; now = value_now ms h D own r }) else None)
        (option_map (λ (x : Numbered). record { number = x.number; read = x.read; now = value_now ms h D own x.read }) (if b then Some (record { number = n; read = r }) else None))
    by true = refl
    by false = refl

-- One that has changed is found.
pub one_changed : (ms : List Rule) (h : Direction) (D : List Fact) (own : List Change) (g : Sense) (ts : List (List Change)) (n : ℕ) (r c : LoggedRead) (t : Bool) (a : Reply) → read_of c ≡ read_of r
    → is_met ms h own g ts (read_of r) ≡ true → a ≡ value_now ms h D own (read_of r) → (t ≡ true) ↔ (a ≡ reply_of r.answer) → t ≡ false
    → Some (record { number = n; read = read_of c; now = a }) ≡ first_changed_from ms h D own g ts n (read_of r ∷ [])
one_changed ms h D own g ts n r c t a same m v s f =
    (λ i. Some (record { number = n; read = same i; now = v i })) ∙ one_by ms h D own g ts n (read_of r) true (test_tells ms h D own g ts r t a m v s ∙ ap not f)

-- One that has its value still is not.
pub one_still : (ms : List Rule) (h : Direction) (D : List Fact) (own : List Change) (g : Sense) (ts : List (List Change)) (n : ℕ) (r : LoggedRead) (t : Bool) (a : Reply)
    → is_met ms h own g ts (read_of r) ≡ true → a ≡ value_now ms h D own (read_of r) → (t ≡ true) ↔ (a ≡ reply_of r.answer) → t ≡ true
    → None ≡ first_changed_from ms h D own g ts n (read_of r ∷ [])
one_still ms h D own g ts n r t a m v s f = one_by ms h D own g ts n (read_of r) false (test_tells ms h D own g ts r t a m v s ∙ ap not f)
