-- A crew's workers have all the seats of the desk's lock, before and after they attend.
use Rattle.std.proofs.Common.{◌≡◌, ℕ, zero, suc, ◌<◌, List, [], ◌∷◌, ◌++◌, take, drop, length, slice_index_or, sym, refl, ap, ◌∙◌, subst, arith}
use Rattle.std.proofs.lemmas.List.{length-map}
use mathlib.Core.Option.{some, some-injective, some-ne-none}
use lib.ListN.{get_elem?}
use Rattle.work_lock.specs.declared.seat.Seat.{Seat}
use Rattle.work_lock.specs.Lock.{lock_id}
use Rattle.work_lock.specs.Seats.{Place, place_of, IsAtRest, AreSeats}
use Rattle.work_lock.proofs.SeatLists.{still_seats, place_at-lock}
use Rattle.try_lock.specs.declared.board.Board.{Board}
use Rattle.try_lock.specs.declared.board.Event.{Event}
use Rattle.try_lock.specs.declared.desk.Desk.{Desk}
use Rattle.try_lock.specs.declared.worker.Worker.{Worker}
use Rattle.try_lock.specs.Own.{Owns}
use Rattle.try_lock.specs.Workers.{seats_of, HaveAttended}

-- the k-th seat is the k-th worker's
seat_at : (ws : List Worker) (k : ℕ) (d : Worker) → k < length ws → get_elem? (seats_of ws) k ≡ some (slice_index_or ws k d).seat
seat_at [] k d h = absurd (omega arith)
seat_at (w ∷ ws) zero d h = refl
seat_at (w ∷ ws) (suc k) d h = seat_at ws k d (omega arith)

worker_at : (ws : List Worker) (k : ℕ) (s : Seat Board Event) → get_elem? (seats_of ws) k ≡ some s → (d : Worker) × (k < length ws) × ((slice_index_or ws k d).seat ≡ s)
worker_at [] k s e = absurd (some-ne-none s (sym e))
worker_at (w ∷ ws) zero s e = (w, omega arith, some-injective w.seat s e)
worker_at (w ∷ ws) (suc k) s e = let t = worker_at ws k s e in (t.0, (let h = t.1 in omega arith), t.2)

-- each worker's seat is the desk's
pub own_all : (desk : Desk) (n : ℕ) (ws : List Worker) (seats : List (Seat Board Event)) → seats_of ws ≡ seats → AreSeats (lock_id desk.lock) n seats → (k : ℕ) (d : Worker) → k < length ws → Owns desk (slice_index_or ws k d).seat
own_all desk n ws seats e all k d h = let q = all.1 k (slice_index_or ws k d).seat (ap (λ l. get_elem? l k) (sym e) ∙ seat_at ws k d h) in (ap (λ (z : Place). z.lock) q.0 ∙ place_at-lock (lock_id desk.lock) n k, q.1)

-- the seats are all the lock's seats still once the workers have attended
pub still_all : (desk : Desk) (n : ℕ) (ws ws' : List Worker) (seats : List (Seat Board Event)) → seats ≡ seats_of ws' → length ws' ≡ length ws → AreSeats (lock_id desk.lock) n (seats_of ws) → HaveAttended desk ws ws' → AreSeats (lock_id desk.lock) (length seats) seats
still_all desk n ws ws' seats e same all did =
    let long : length (seats_of ws') ≡ length (seats_of ws) = length-map ws' (λ w. w.seat) ∙ (same ∙ sym (length-map ws (λ w. w.seat))) in
    let after : AreSeats (lock_id desk.lock) n (seats_of ws') = still_seats (lock_id desk.lock) n (seats_of ws) (seats_of ws') all long
    (λ k s t was now.
    let w = worker_at ws' k t now in
    let inside = w.1 in
    let a = did k w.0 (omega arith) in
    let before : (slice_index_or ws k w.0).seat ≡ s = some-injective (slice_index_or ws k w.0).seat s (sym (seat_at ws k w.0 (omega arith)) ∙ was) in
    (sym (ap place_of w.2) ∙ (a.place ∙ ap place_of before), subst IsAtRest w.2 a.owns.1)) in
    subst (λ (z : List (Seat Board Event)). AreSeats (lock_id desk.lock) (length z) z) (sym e) (subst (λ (m : ℕ). AreSeats (lock_id desk.lock) m (seats_of ws')) (sym after.0) after)

take_nil : {A : Type 0} (n : ℕ) → ◌≡◌ {A = List A} (take n []) []
take_nil zero = refl
take_nil (suc n) = refl

-- a slice of the whole list, written back
pub whole : {A : Type 0} (new old : List A) (n : ℕ) → length new ≡ length old → n ≡ length old → take n (new ++ drop (length new) old) ≡ new
whole [] [] n e m = take_nil n
whole [] (y ∷ old) n e m = absurd (omega arith)
whole (x ∷ new) [] n e m = absurd (omega arith)
whole (x ∷ new) (y ∷ old) zero e m = absurd (omega arith)
whole (x ∷ new) (y ∷ old) (suc n) e m = λ i. x ∷ whole new old n (omega arith) (omega arith) i
