-- One event more on a board.
use Rattle.std.proofs.Common.{◌≡◌, ℕ, ◌+◌, ◌<◌, List, [], ◌∷◌, ◌++◌, length, slice_index, sym, refl, ap, ◌∙◌, subst, arith, Some}
use mathlib.Core.List.{map-append}
use Rattle.std.proofs.lemmas.List.Sums.{sum_by-append, sum_by-remove}
use Rattle.std.specs.List.{remove}
use Rattle.def_record.specs.declared.made.Made.{Made}
use Rattle.def_record.specs.Makers.{weight_for, Follows, Extends, sum_made_by}
use Rattle.work_lock.proofs.Histories.{weight_for-own, weight_for-zero, sum_made_by-append, sum_made_by-follows}
use Rattle.try_lock.specs.declared.board.Event.{Event}
use Rattle.try_lock.specs.declared.board.Event.TheVariants.{Gave, Returned}
use Rattle.try_lock.specs.declared.board.Item.{Item}
use Rattle.try_lock.specs.Events.{made_of, made_all, tickets_out, tickets_back, given_to, returned_by, count_for, IsHeld}

pub extends_one : (xs ys : List Item) (x : Item) → ys ≡ xs ++ x ∷ [] → Extends x.maker (made_all xs) (made_all ys)
extends_one xs ys x e = (made_of x ∷ [], sym (ap made_all e ∙ map-append made_of xs (x ∷ [])), (refl, tt))

-- what the seat j made weighs more by the new event, if it is its own
pub sum_one : (weight : Event → ℕ) (j : ℕ) (xs ys : List Item) (x : Item) → ys ≡ xs ++ x ∷ [] → sum_made_by weight j (made_all ys) ≡ sum_made_by weight j (made_all xs) + weight_for j (Some x.maker) (weight x.event)
sum_one weight j xs ys x e =
    let all = ap (sum_made_by weight j) (ap made_all e ∙ map-append made_of xs (x ∷ [])) in
    let parts = sum_made_by-append weight j (made_all xs) (made_of x ∷ []) in
    omega arith

-- giving a ticket to the seat m, which is then one of the holders
pub gives : (j n m : ℕ) (xs ys : List Item) (holders after : List ℕ) → ys ≡ xs ++ record { event = Gave n; maker = m } ∷ [] → after ≡ holders ++ m ∷ []
    → given_to j (made_all xs) ≡ returned_by j (made_all xs) + count_for j holders → given_to j (made_all ys) ≡ returned_by j (made_all ys) + count_for j after
gives j n m xs ys holders after e h was =
    let i : Item = record { event = Gave n; maker = m } in
    let out = sum_one tickets_out j xs ys i e in
    let back = sum_one tickets_back j xs ys i e in
    let none = weight_for-zero j (Some m) in
    let more = ap (count_for j) h ∙ sum_by-append (λ (k : ℕ). weight_for j (Some k) 1) holders (m ∷ []) in
    omega arith

-- the seat m, the i-th of the holders, returns a ticket
pub returns_one : (j n m i : ℕ) (xs ys : List Item) (holders after : List ℕ) → ys ≡ xs ++ record { event = Returned n; maker = m } ∷ [] → i < length holders → slice_index holders i ≡ m → after ≡ remove holders i
    → given_to j (made_all xs) ≡ returned_by j (made_all xs) + count_for j holders → given_to j (made_all ys) ≡ returned_by j (made_all ys) + count_for j after
returns_one j n m i xs ys holders after e inside at h was =
    let x : Item = record { event = Returned n; maker = m } in
    let out = sum_one tickets_out j xs ys x e in
    let back = sum_one tickets_back j xs ys x e in
    let none = weight_for-zero j (Some m) in
    let fewer : count_for j (remove holders i) + weight_for j (Some (slice_index holders i)) 1 ≡ count_for j holders = sum_by-remove (λ (k : ℕ). weight_for j (Some k) 1) holders i 0 inside in
    let same = ap (λ (k : ℕ). weight_for j (Some k) 1) at in
    let less = ap (count_for j) h in
    omega arith

-- the tickets that the seat m was given, and returned, once it was given one
pub given_one : (n m : ℕ) (xs ys : List Item) → ys ≡ xs ++ record { event = Gave n; maker = m } ∷ [] → (given_to m (made_all ys) ≡ given_to m (made_all xs) + 1) × (returned_by m (made_all ys) ≡ returned_by m (made_all xs))
given_one n m xs ys e =
    let i : Item = record { event = Gave n; maker = m } in
    let out = sum_one tickets_out m xs ys i e in
    let back = sum_one tickets_back m xs ys i e in
    let own = weight_for-own m 1 in
    let none = weight_for-zero m (Some m) in (omega arith, omega arith)

-- and once it returned one
pub returned_one : (n m : ℕ) (xs ys : List Item) → ys ≡ xs ++ record { event = Returned n; maker = m } ∷ [] → (given_to m (made_all ys) ≡ given_to m (made_all xs)) × (returned_by m (made_all ys) ≡ returned_by m (made_all xs) + 1)
returned_one n m xs ys e =
    let i : Item = record { event = Returned n; maker = m } in
    let out = sum_one tickets_out m xs ys i e in
    let back = sum_one tickets_back m xs ys i e in
    let own = weight_for-own m 1 in
    let none = weight_for-zero m (Some m) in (omega arith, omega arith)

-- a seat that holds a ticket holds it still after the others' turns
pub still_held : (j now : ℕ) (xs ys : List (Made Event)) → now ≡ j → Follows j xs ys → IsHeld j xs → IsHeld now ys
still_held j now xs ys same follows held =
    let out = sum_made_by-follows tickets_out j xs ys follows in
    let back = sum_made_by-follows tickets_back j xs ys follows in
    subst (λ (i : ℕ). IsHeld i ys) (sym same) (omega arith)
