-- From the clause of a lock's end to the record.
use Rattle.std.proofs.Common.{◌≡◌, ℕ, zero, suc, ◌<◌, sym, refl, ap, subst, ◌∙◌, List, [], ◌∷◌, map, length}
use Rattle.std.proofs.lemmas.List.{length-map}
use mathlib.Core.Option.{some, some-injective, some-ne-none}
use lib.ListN.{get_elem?}
use Rattle.def_machine.specs.Machine.{Machine}
use Rattle.def_record.specs.declared.made.Made.{Made}
use Rattle.work_lock.specs.declared.seat.Seat.{Seat}
use Rattle.def_record.specs.Makers.{Unmade}
use Rattle.def_record.specs.Makers.{FollowsAmong}
use Rattle.work_lock.specs.Seats.{seen_of}
use Rattle.def_record.specs.Items.{ItemOf, Record}
use Rattle.def_record.specs.Rests.{SeesRest}
use Rattle.def_record.specs.Marks.{meant}
use Rattle.work_desk.specs.ClosedDesks.{ClosingLaw}
use Rattle.def_record.proofs.Marking.{meant_join}
use Rattle.def_record.proofs.Resting.{rest_law}

-- what stands in a mapped list
mapped_at : {A B : Type 0} (f : A → B) (xs : List A) (k : ℕ) (y : B) → get_elem? (map f xs) k ≡ some y → (x : A) × (get_elem? xs k ≡ some x) × (f x ≡ y)
mapped_at f [] k y e = absurd (some-ne-none y (sym e))
mapped_at f (x ∷ xs) zero y e = (x, refl, some-injective (f x) y e)
mapped_at f (x ∷ xs) (suc k) y e = mapped_at f xs k y e

module _ {M : Machine} {E : Type 0} (item : E → ItemOf M) where
  unmade_meant : (k : ℕ) (xs : List (Made E)) → Unmade k xs → Unmade k (meant item xs)
  unmade_meant k [] h = tt
  unmade_meant k (x ∷ xs) h = (h.0, unmade_meant k xs h.1)

  pub follows_meant : (n j : ℕ) (xs ys : List (Made E)) → FollowsAmong n j xs ys → FollowsAmong n j (meant item xs) (meant item ys)
  follows_meant n j xs ys f = (meant item f.0, sym (meant_join item xs f.0) ∙ ap (meant item) f.1, λ k h. unmade_meant k f.0 (f.2 k h))

pub closing_law : (M : Machine) (V E : Type 0) → ClosingLaw M V E
closing_law M V E item history seats filled rec within rests =
    let f : Seat V E → Record M = λ s. meant item (seen_of s) in
    let count : length (map f seats) ≡ length seats = length-map seats f in
    rest_law M (meant item history) (map f seats) rec (subst (λ n. 0 < n) (sym count) filled)
    (λ k xs at. let s = mapped_at f seats k xs at in
    subst (λ (y : ℕ × Record M). FollowsAmong y.0 k y.1 (meant item history)) (λ i. (sym count i, s.2 i)) (follows_meant item (length seats) k (seen_of s.0) history (within k s.0 s.1)))
    (λ k xs at. let s = mapped_at f seats k xs at in subst (λ (r : Record M). SeesRest M r) s.2 (rests k s.0 s.1))
