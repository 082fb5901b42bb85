-- What a write of one column makes of all columns, and what a write of each column of a tuple makes of them.
use Rattle.std.proofs.Common.{◌≡◌, ℕ, zero, suc, ◌+◌, ◌<◌, ◌≤◌, length, get_or, arith, ap, refl, sym, ◌∙◌, subst, List, [], ◌∷◌, ◌++◌, map, Bool, true, false, ◌&&◌, ◌||◌, inl, inr}
use Rattle.std.specs.Prelude.{slice_get}
use Rattle.std.proofs.lemmas.Bool.{cases_eq, cases_lt}
use Rattle.def_chase.specs.Values.{Datum, Fact, same_fact, same_datum}
use Rattle.def_chase.specs.Repository.{has}
use Rattle.def_chase.specs.Cursors.{has_at, is_datum}
use Rattle.base_types.specs.Meanings.{datum_of}
use Rattle.base_types.specs.declared.values.Value.{Value}
use Rattle.set_facts.specs.Indexes.{Kept, group_at, AreSame, AddsAtMost}

-- ---- one column

-- ---- the columns of one tuple

-- Whether the tuple has a value in a column is whether the value there is that.
pub at_place : (xs : List Value) (i : ℕ) (x : Value) (d : Datum) → i < length xs → x ≡ get_or xs i x → is_datum d (slice_get (map datum_of xs) i) ≡ same_datum d (datum_of x)
at_place [] i x d h e = absurd (omega arith)
at_place (y ∷ ys) zero x d h e = ap (λ (z : Value). same_datum d (datum_of z)) (sym e)
at_place (y ∷ ys) (suc i) x d h e = at_place ys i x d (omega arith) e

-- Past the last column there is none.
pub none_past : (xs : List Value) (c : ℕ) (d : Datum) → length xs ≤ c → is_datum d (slice_get (map datum_of xs) c) ≡ false
none_past [] c d h = refl
none_past (x ∷ xs) zero d h = absurd (omega arith)
none_past (x ∷ xs) (suc c) d h = none_past xs c d (omega arith)

-- The columns below k are what f makes of them and of being the tuple where it has its values.
abbrev pub ChangedBelow : (Bool → Bool → Bool) → ℕ → Fact → List Kept → List Kept → Type 0
ChangedBelow f k t ls ms = (c : ℕ) (d : Datum) (u : Fact) → c < k → has (group_at ms c d) u ≡ f (has (group_at ls c d) u) (has_at c d t && same_fact u t)

-- The columns from k on are as they were.
abbrev pub SameFrom : ℕ → List Kept → List Kept → Type 0
SameFrom k ls ms = (c : ℕ) (d : Datum) → k ≤ c → group_at ms c d ≡ group_at ls c d

module _ (f : Bool → Bool → Bool) (t : Fact) (k : ℕ) (ls ms : List Kept) (before : ChangedBelow f k t ls ms) (after : SameFrom k ls ms) where
  -- One column more is changed.
  pub one_more : (ns : List Kept) (v : Datum) → ((d : Datum) → has_at k d t ≡ same_datum d v) → ((d : Datum) (u : Fact) → has (group_at ns k d) u ≡ f (has (group_at ms k d) u) (same_datum d v && same_fact u t))
      → ((c : ℕ) (d : Datum) → (c ≡ k → ⊥) → group_at ns c d ≡ group_at ms c d) → ChangedBelow f (k + 1) t ls ns
  one_more ns v at here others c d u h =
      elim (cases_eq c k) [
        | inl e ↦ subst (λ (j : ℕ). has (group_at ns j d) u ≡ f (has (group_at ls j d) u) (has_at j d t && same_fact u t)) (sym e) (here d u ∙ (λ i. f (has (after k d (omega arith) i) u) (sym (at d) i && same_fact u t)))
        | inr n ↦ ap (λ (G : List Fact). has G u) (others c d n) ∙ before c d u (omega (arith, h, n))
      ]

  pub fewer_same : (ns : List Kept) → ((c : ℕ) (d : Datum) → (c ≡ k → ⊥) → group_at ns c d ≡ group_at ms c d) → SameFrom (k + 1) ls ns
  fewer_same ns others c d h = others c d (λ e. absurd (omega (arith, h, e))) ∙ after c d (omega (arith, h))

  -- Past the last column of the tuple nothing had to change.
  pub all_changed : ((a : Bool) → f a false ≡ a) → ((c : ℕ) (d : Datum) → k ≤ c → has_at c d t ≡ false) → (c : ℕ) (d : Datum) (u : Fact) → has (group_at ms c d) u ≡ f (has (group_at ls c d) u) (has_at c d t && same_fact u t)
  all_changed idle past c d u = elim (cases_lt c k) [
    | inl h ↦ before c d u h
    | inr h ↦ ap (λ (G : List Fact). has G u) (after c d h) ∙ sym (idle (has (group_at ls c d) u)) ∙ ap (λ b. f (has (group_at ls c d) u) (b && same_fact u t)) (sym (past c d h))
  ]

-- ---- writes that want memory

-- What is added is at most added.
pub may_add : (a b m : Bool) → m ≡ (a || b) → m ≡ (a || (b && m))
may_add a b m e = subst (λ (x : Bool). x ≡ (a || (b && x))) (sym e) (by a b)
  where
    by : (a b : Bool) → (a || b) ≡ (a || (b && (a || b)))
    by true b = refl
    by false true = refl
    by false false = refl

-- What stays has at most something added.
pub may_stay : (a b m : Bool) → m ≡ a → m ≡ (a || (b && m))
may_stay a b m e = subst (λ (x : Bool). x ≡ (a || (b && x))) (sym e) (by a b)
  where
    by : (a b : Bool) → a ≡ (a || (b && a))
    by true b = refl
    by false true = refl
    by false false = refl

-- Where the tuple is added to some of its columns, nothing else changes.
pub some_added : (t : Fact) (k : ℕ) (ls ms ns : List Kept) → ChangedBelow (λ a b. a || b) k t ls ms → SameFrom k ls ms → AreSame ms ns → AddsAtMost t ls ns
some_added t k ls ms ns before after same c d u =
    let here = has_at c d t && same_fact u t in
    subst (λ (G : List Fact). has G u ≡ (has (group_at ls c d) u || (here && has G u))) (sym (same c d))
    (elim (cases_lt c k) [
      | inl h ↦ may_add (has (group_at ls c d) u) here (has (group_at ms c d) u) (before c d u h)
      | inr h ↦ may_stay (has (group_at ls c d) u) here (has (group_at ms c d) u) (ap (λ (G : List Fact). has G u) (after c d h))
    ])
