-- How many entries there are after one is put in or taken out.
use Rattle.std.proofs.Common.{◌≡◌, ℕ, ◌+◌, suc, arith, ap, sym, ◌∙◌, refl, length, List, [], ◌∷◌, not, cond, Option, Some, None}
use Rattle.std.specs.BTreeMap.{insert_entry}
use Rattle.std.specs.Cmp.{IsTotalOrder}
use Rattle.std.specs.List.Sorted.{IsStrictlySortedBy}
use Rattle.std.specs.Ordering.{is_eq, match_ordering}
use Rattle.std.specs.declared.cmp.Ordering.{Ordering}
use Rattle.std.specs.declared.cmp.Ordering.TheVariants.{Less, Equal, Greater}
use Rattle.base_tree.specs.Orders.{IsOrdered, is_at, entry_at, value_at, without}
use Rattle.std.specs.Option.{option_map}
use Rattle.base_tree.proofs.Changes.{find_none, elsewhere, kept, filter_all}
use Rattle.base_tree.proofs.Sides.{sides, before_all, before_at}

module _ {K V : Type 0} (R : K → K → Ordering) (k : K) where
  -- Where the key is new, there is one entry more.
  pub longer : (v : V) (es : List (K × V)) → entry_at R k es ≡ None → length (insert_entry R es k v) ≡ suc (length es)
  longer v [] n = refl
  longer v (e ∷ es) n = by (R k e.0) n (longer v es)
    where
      by : (a : Ordering) → cond (is_eq a) (Some e) (entry_at R k es) ≡ None → (entry_at R k es ≡ None → length (insert_entry R es k v) ≡ suc (length es))
          → length (match_ordering a ((k, v) ∷ e ∷ es) ((e.0, v) ∷ es) (e ∷ insert_entry R es k v)) ≡ suc (length (e ∷ es))
      by Less f i = refl
      by Equal f i = cc
      by Greater f i = ap suc (i f)

module _ {K V : Type 0} {R : K → K → Ordering} (o : IsTotalOrder R) (k : K) where
  -- After an entry above the key none is at the key.
  none_after : (e : K × V) (es : List (K × V)) → IsOrdered R (e ∷ es) → R k e.0 ≡ Less → entry_at R k es ≡ None
  none_after e es s h = find_none (is_at R k) es (elsewhere R k Less refl es (before_all o k e es h (sides R [] e es s).above))

  -- Where the key is there, as many as before.
  pub as_long : (v : V) (es : List (K × V)) {x : K × V} → IsOrdered R es → entry_at R k es ≡ Some x → length (insert_entry R es k v) ≡ length es
  unfolding IsStrictlySortedBy
  as_long v [] s f = cc
  as_long v (e ∷ es) {x} s f = by (R k e.0) refl f (as_long v es s.1)
    where
      by : (a : Ordering) → R k e.0 ≡ a → cond (is_eq a) (Some e) (entry_at R k es) ≡ Some x → (entry_at R k es ≡ Some x → length (insert_entry R es k v) ≡ length es)
          → length (match_ordering a ((k, v) ∷ e ∷ es) ((e.0, v) ∷ es) (e ∷ insert_entry R es k v)) ≡ length (e ∷ es)
      by Less q f i = let none : entry_at R k es ≡ None = none_after e es s q in cc
      by Equal q f i = refl
      by Greater q f i = ap suc (i f)

  -- Without the entry at the key there is one less.
  pub shorter : (es : List (K × V)) {x : K × V} → IsOrdered R es → entry_at R k es ≡ Some x → suc (length (without R k es)) ≡ length es
  unfolding IsStrictlySortedBy
  shorter [] s f = cc
  shorter (e ∷ es) {x} s f = by (R k e.0) refl f (shorter es s.1)
    where
      by : (a : Ordering) → R k e.0 ≡ a → cond (is_eq a) (Some e) (entry_at R k es) ≡ Some x → (entry_at R k es ≡ Some x → suc (length (without R k es)) ≡ length es)
          → suc (length (cond (not (is_eq a)) (e ∷ without R k es) (without R k es))) ≡ length (e ∷ es)
      by Less q f i = let none : entry_at R k es ≡ None = none_after e es s q in cc
      by Equal q f i =
          ap (λ t. suc (length t)) (filter_all (λ y. not (is_at R k y)) es (kept R k Less refl es (before_at o k e es q (sides R [] e es s).above)))
      by Greater q f i = ap suc (i f)

none_mapped : {X Y : Type 0} (f : X → Y) (o : Option X) → option_map f o ≡ None → o ≡ None
none_mapped f None h = refl
none_mapped f (Some x) h = cc

some_mapped : {X Y : Type 0} (f : X → Y) (o : Option X) {y : Y} → option_map f o ≡ Some y → (x : X) × (o ≡ Some x)
some_mapped f None h = absurd (cc)
some_mapped f (Some x) h = (x, refl)

module _ {K V : Type 0} {R : K → K → Ordering} (o : IsTotalOrder R) (k : K) (v : V) (es : List (K × V)) {fs : List (K × V)} (is : fs ≡ insert_entry R es k v) (n : ℕ) (long : length es ≡ n) where
  pub counted_new : {was : Option V} → was ≡ value_at R k es → was ≡ None → length fs ≡ n + 1
  counted_new {was} told none =
      let more : length fs ≡ suc (length es) = ap length is ∙ longer R k v es (none_mapped (λ e. e.1) (entry_at R k es) (sym told ∙ none)) in
      omega (arith, more, long)

  pub counted_old : {was : Option V} {w : V} → was ≡ value_at R k es → was ≡ Some w → IsOrdered R es → length fs ≡ n
  counted_old {was} {w} told some s =
      ap length is ∙ as_long o k v es s (some_mapped (λ e. e.1) (entry_at R k es) (sym told ∙ some)).1 ∙ long
