-- The items that lie in places.
use Rattle.std.proofs.Common.{◌≡◌, ◌<◌, ◌≤◌, ◌-◌, ◌+◌, ℕ, zero, suc, ap, refl, sym, ◌∙◌, arith, List, [], ◌∷◌, ◌++◌, append_assoc, length, length-append, take, drop, get_or, Option, Some}
use Rattle.std.proofs.lemmas.List.{drop-append-le}
use Rattle.std.proofs.Math.ListN.{drop_of_length-le}
use Rattle.std.proofs.Math.Seq.{drop-cons}
use Rattle.std.specs.Borrow.{Bor}
use Rattle.std.specs.Option.{option_copied, option_to_list}
use Rattle.base_tree.specs.Few.{Batch, most, no_item, with_first, items_in}

module _ {T : Type 0} where
  items_both : (os ps : List (Option (Bor T))) → items_in (os ++ ps) ≡ items_in os ++ items_in ps
  unfolding items_in
  items_both [] ps = refl
  items_both (o ∷ os) ps = ap (λ t. option_to_list (option_copied o) ++ t) (items_both os ps) ∙ sym (append_assoc (option_to_list (option_copied o)) (items_in os) (items_in ps))

  -- What is seen of places from which so many were given.
  abbrev pub seen : List (Option (Bor T)) → ℕ → Batch T
  seen os k = record { left = items_in (drop k os); room = most - length os }

  abbrev batch : List T → ℕ → Batch T
  batch l r = record { left = l; room = r }

  -- No place is filled.
  pub none_seen : (os : List (Option (Bor T))) → os ≡ [] → seen os 0 ≡ no_item
  unfolding items_in
  none_seen os e = ap (λ (l : List (Option (Bor T))). seen l 0) e

  one_taken : (n : ℕ) (x : T) → 1 ≤ n → take n (x ∷ []) ≡ x ∷ []
  one_taken zero x h = absurd (omega (arith, h))
  one_taken (suc zero) x h = refl
  one_taken (suc (suc n)) x h = refl

  -- One more place is filled.
  pub one_more : (os after : List (Option (Bor T))) (k : ℕ) (x : Bor T) → after ≡ os ++ Some x ∷ [] → k ≤ length os → 1 ≤ most - length os → seen after k ≡ with_first (seen os k) (x.now ∷ [])
  unfolding items_in
  one_more os after k x e h room =
      ap (λ (l : List (Option (Bor T))). seen l k) e
      ∙ ap (λ (l : List T). batch l (most - length (os ++ Some x ∷ [])))
      (ap items_in (drop-append-le k os (Some x ∷ []) h) ∙ items_both (drop k os) (Some x ∷ []) ∙ ap (λ t. items_in (drop k os) ++ t) (sym (one_taken (most - length os) x.now room)))
      ∙ ap (batch (items_in (drop k os) ++ take (most - length os) (x.now ∷ []))) (less_room (length os) (length (os ++ Some x ∷ [])) (length-append os (Some x ∷ [])))
    where
      less_room : (n m : ℕ) → m ≡ n + 1 → most - m ≡ most - n - 1
      less_room n m e = omega (arith, e)

  -- The next one is given.
  pub next_given : (os : List (Option (Bor T))) (k : ℕ) (o : Option (Bor T)) → k < length os → o ≡ get_or os k o → items_in (drop k os) ≡ option_to_list (option_copied o) ++ items_in (drop (k + 1) os)
  unfolding items_in
  next_given os k o h e =
      ap items_in (drop-cons os k o h) ∙ ap (λ x. items_in (x ∷ drop (suc k) os)) (sym e) ∙ ap (λ n. option_to_list (option_copied o) ++ items_in (drop n os)) (after k)
    where
      after : (n : ℕ) → suc n ≡ n + 1
      after n = omega (arith)

  -- All were given.
  pub all_given : (os : List (Option (Bor T))) (k : ℕ) → length os ≤ k → items_in (drop k os) ≡ []
  unfolding items_in
  all_given os k h = ap items_in (drop_of_length-le os h)
