-- The last write of a tuple, by the test and by the place where it stands.
use Rattle.std.proofs.Common.{◌≡◌, ℕ, zero, suc, ap, refl, sym, ◌∙◌, subst, inl, inr, List, [], ◌∷◌, ◌++◌, Bool, true, false, not, ◌||◌, ◌&&◌}
use Rattle.std.specs.Bool.{Decides}
use Rattle.std.specs.Prelude.{◌≢◌, slice_get, Some}
use Rattle.std.specs.Cmp.{Equal-is, tied_itself}
use Rattle.std.specs.List.{AllByRecursion, list_any}
use Rattle.std.specs.Ordering.{is_eq}
use Rattle.std.proofs.lemmas.Bool.{false≢true, or_cases}
use Rattle.def_chase.specs.Values.{Fact, fact_cmp, same_fact}
use Rattle.def_chase.specs.Repository.{Change, Insert, Delete, inserted_after}
use Rattle.def_chase.proofs.Bools.{none_some, some_same, or_left, or_right}
use Rattle.def_chase.proofs.Order.{fact_total, fact_exact}
use Rattle.def_steps.specs.Counted.{tuple_of, IsInserted}

pub same_exact : (s t : Fact) → same_fact s t ≡ true → s ≡ t
same_exact s t e = fact_exact s t ((Equal-is (fact_cmp s t)).0 e)

pub same_itself : (t : Fact) → same_fact t t ≡ true
same_itself t = ap is_eq (tied_itself fact_total t)

-- no write of the tuple
abbrev Silent : List Change → Fact → Type 0
Silent ws t = AllByRecursion (λ w. tuple_of w ≢ t) ws

-- inserted by a write, or there before and not written
pub data Stands (before : Bool) (ws : List Change) (t : Fact) : Type 0 where
  By : IsInserted ws t → Stands before ws t
  Stayed : before ≡ true → Silent ws t → Stands before ws t

later : (w : Change) (ws : List Change) (t : Fact) → IsInserted ws t → IsInserted (w ∷ ws) t
later w ws t x = record { before = w ∷ x.before; after = x.after; there = ap (λ l. w ∷ l) x.there; last = x.last }

here : (ws : List Change) (t : Fact) → Silent ws t → IsInserted (Insert t ∷ ws) t
here ws t s = record { before = []; after = ws; there = refl; last = s }

off_false : (a : Bool) → (a && false) ≡ true → false ≡ true
off_false true e = e
off_false false e = e

pub stands_from : (b : Bool) (ws : List Change) (t : Fact) → inserted_after b ws t ≡ true → Stands b ws t
stands_from b [] t e = Stayed e tt
stands_from b (Insert s ∷ ws) t e = by (same_fact t s) refl (stands_from (same_fact t s || b) ws t e)
  where
    by : (r : Bool) → same_fact t s ≡ r → Stands (r || b) ws t → Stands b (Insert s ∷ ws) t
    by r q (By x) = By (later (Insert s) ws t x)
    by true q (Stayed h n) = let same : t ≡ s = same_exact t s q in By (subst (λ (u : Fact). IsInserted (Insert u ∷ ws) t) same (here ws t n))
    by false q (Stayed h n) = Stayed h (λ h. false≢true (sym q ∙ ap (λ (u : Fact). same_fact t u) h ∙ same_itself t), n)
stands_from b (Delete s ∷ ws) t e = by (same_fact t s) refl b refl (stands_from (b && not (same_fact t s)) ws t e)
  where
    by : (r : Bool) → same_fact t s ≡ r → (c : Bool) → b ≡ c → Stands (c && not r) ws t → Stands b (Delete s ∷ ws) t
    by r q c d (By x) = By (later (Delete s) ws t x)
    by true q c d (Stayed h n) = absurd (false≢true (off_false c h))
    by false q true d (Stayed h n) = Stayed d (λ h. false≢true (sym q ∙ ap (λ (u : Fact). same_fact t u) h ∙ same_itself t), n)
    by false q false d (Stayed h n) = absurd (false≢true h)

or_on : (a : Bool) → (a || true) ≡ true
or_on true = refl
or_on false = refl

other : (s t : Fact) → s ≢ t → same_fact t s ≡ false
other s t h = by (same_fact t s) refl
  where
    by : (r : Bool) → same_fact t s ≡ r → r ≡ false
    by true q = absurd (h (sym (same_exact t s q)))
    by false q = refl

silent_keeps : (ws : List Change) (t : Fact) → Silent ws t → inserted_after true ws t ≡ true
silent_keeps [] t n = refl
silent_keeps (Insert s ∷ ws) t n = ap (λ b. inserted_after b ws t) (or_on (same_fact t s)) ∙ silent_keeps ws t n.1
silent_keeps (Delete s ∷ ws) t n = ap (λ b. inserted_after (not b) ws t) (other s t n.0) ∙ silent_keeps ws t n.1

inserted_to : (b : Bool) (before after : List Change) (t : Fact) → Silent after t → inserted_after b (before ++ Insert t ∷ after) t ≡ true
inserted_to b [] after t n = ap (λ c. inserted_after (c || b) after t) (same_itself t) ∙ silent_keeps after t n
inserted_to b (Insert s ∷ before) after t n = inserted_to (same_fact t s || b) before after t n
inserted_to b (Delete s ∷ before) after t n = inserted_to (b && not (same_fact t s)) before after t n

inserted_of : (ws : List Change) (t : Fact) → Stands false ws t → IsInserted ws t
inserted_of ws t (By x) = x
inserted_of ws t (Stayed h n) = absurd (false≢true h)

-- the test decides it
pub inserted_decides : (ws : List Change) (t : Fact) → Decides (inserted_after false ws t) (IsInserted ws t)
inserted_decides ws t = (
  λ e. inserted_of ws t (stands_from false ws t e),
  λ x. ap (λ l. inserted_after false l t) x.there ∙ inserted_to false x.before x.after t x.last,
)

-- what passes a test stands at a place
pub any_place : {A : Type 0} (p : A → Bool) (xs : List A) → list_any p xs ≡ true → (i : ℕ) × (x : A) × (slice_get xs i ≡ Some x) × (p x ≡ true)
any_place p [] e = absurd (false≢true e)
any_place p (x ∷ xs) e = elim (or_cases (p x) (list_any p xs) e) [
  | inl h ↦ (0, x, refl, h)
  | inr h ↦ let r = any_place p xs h in (suc r.0, r.1, r.2, r.3)
]

pub place_any : {A : Type 0} (p : A → Bool) (xs : List A) (i : ℕ) (x : A) → slice_get xs i ≡ Some x → p x ≡ true → list_any p xs ≡ true
place_any p [] i x e h = absurd (none_some x e)
place_any p (y ∷ ys) zero x e h = or_left (p y) (list_any p ys) (ap p (some_same y x e) ∙ h)
place_any p (y ∷ ys) (suc i) x e h = or_right (p y) (list_any p ys) (place_any p ys i x e h)
