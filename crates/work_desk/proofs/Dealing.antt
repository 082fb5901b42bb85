-- The seats of a desk, as they are dealt and as they come back: for whoever opens a desk, has its seats used, and closes it.
use Rattle.std.proofs.Common.{◌≡◌, ◌∙◌, sym, refl, ap, subst, arith, ℕ, zero, suc, ◌<◌, List, [], ◌∷◌, append-nil, map, length, slice_index_or}
use Rattle.std.proofs.lemmas.List.{length-map}
use Rattle.std.specs.Prelude.{All}
use mathlib.Core.Option.{some, some-injective, some-ne-none}
use lib.ListN.{get_elem?}
use Rattle.work_lock.specs.Seats.{Place, place_of, AreSeats, AllSaw}
use Rattle.work_lock.proofs.SeatLists.{still_seats, place_at-lock}
use Rattle.def_history.specs.Cores.{Ground}
use Rattle.def_history.specs.PlainEntries.{PlainEntry}
use Rattle.work_desk.specs.declared.desk.Desk.{Desk}
use Rattle.work_desk.specs.Shared.{opening_items}
use Rattle.work_desk.specs.Seats.{DeskSeat, desk_lock, core_of, IsSeatOf}
use Rattle.work_desk.specs.Closing.{AllSeatsOf}

module _ {A : Type 0} where
  elem_at : (xs : List A) (k : ℕ) (d : A) → k < length xs → get_elem? xs k ≡ some (slice_index_or xs k d)
  elem_at [] k d h = absurd (omega arith)
  elem_at (x ∷ xs) zero d h = refl
  elem_at (x ∷ xs) (suc k) d h = elem_at xs k d (omega arith)

  -- what holds of all holds of the k-th
  pub of_all : (P : A → Type 0) (xs : List A) (k : ℕ) (x : A) → All P xs → get_elem? xs k ≡ some x → P x
  of_all P [] k x all e = absurd (some-ne-none x (sym e))
  of_all P (y ∷ xs) zero x all e = subst P (some-injective y x e) (all 0 y (omega arith))
  of_all P (y ∷ xs) (suc k) x all e = of_all P xs k x (λ j d h. all (suc j) d (omega arith)) e

  mapped : {B : Type 0} (f : A → B) (xs : List A) (k : ℕ) (x : A) → get_elem? xs k ≡ some x → get_elem? (map f xs) k ≡ some (f x)
  mapped f [] k x e = absurd (some-ne-none x (sym e))
  mapped f (y ∷ xs) zero x e = ap (λ z. some (f z)) (some-injective y x e)
  mapped f (y ∷ xs) (suc k) x e = mapped f xs k x e

module _ {C S P : Type 0} (over : C → Ground) (history : C → List PlainEntry) (d : Desk C S P) where
  -- the seats that were dealt are the desk's
  pub dealt_own : (core : C) (n : ℕ) (seats : List DeskSeat) → core_of d ≡ core → AreSeats (desk_lock d) n seats → AllSaw (opening_items (over core) (history core)) seats
      → All (IsSeatOf over history d) seats
  dealt_own core n seats e all saw k s h =
      let t = slice_index_or seats k s in
      let at = elem_at seats k s h in
      let q = all.1 k t at in
      record {
        lock = ap (λ (z : Place). z.lock) q.0 ∙ place_at-lock (desk_lock d) n k;
        rest = q.1;
        later = [];
        saw = append-nil (opening_items (over (core_of d)) (history (core_of d))) ∙ (ap (λ (x : C). opening_items (over x) (history x)) e ∙ sym (saw k t at));
      }

  -- the seats that came back are the desk's
  pub back_own : (seats : List DeskSeat) → All (IsSeatOf over history d) seats → AllSeatsOf over history d seats
  back_own seats own k s at = of_all (IsSeatOf over history d) seats k s own at

  -- and all of them
  pub back_all : (n : ℕ) (seats after : List DeskSeat) → AreSeats (desk_lock d) n seats → map place_of after ≡ map place_of seats → All (IsSeatOf over history d) after
      → (length after ≡ n) × AreSeats (desk_lock d) (length after) after
  back_all n seats after all places own =
      let long : length after ≡ length seats = sym (length-map after place_of) ∙ (ap length places ∙ length-map seats place_of) in
      let still : AreSeats (desk_lock d) n after = still_seats (desk_lock d) n seats after all long
      (λ k s t was now. (
        some-injective (place_of t) (place_of s) (sym (mapped place_of after k t now) ∙ (ap (λ (l : List Place). get_elem? l k) places ∙ mapped place_of seats k s was)),
        (of_all (IsSeatOf over history d) after k t own now).rest,
      )) in
      (still.0, subst (λ (m : ℕ). AreSeats (desk_lock d) m after) (sym still.0) still)
