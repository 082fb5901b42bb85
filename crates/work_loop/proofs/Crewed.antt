-- The workers' seats, before and after they work.
use Rattle.std.proofs.Common.{◌≡◌, ℕ, zero, suc, ◌<◌, Bool, true, false, ◌&&◌, List, [], ◌∷◌, ◌++◌, take, drop, map, length, slice_index_or, Result, Ok, Err, sym, refl, subst, arith}
use Rattle.std.specs.Prelude.{All, OnOk, is_ok}
use Rattle.work_loop.specs.declared.workers.Worker.{Worker}
use Rattle.work_loop.specs.Crews.{seats_of, all_ok, EachLeaves}

both : (a b : Bool) → (a && b) ≡ true → (a ≡ true) × (b ≡ true)
both true b e = (refl, e)
both false b e = absurd (cc e)

from_ok : {A E : Type 0} (P : Type 0) (r : Result A E) → is_ok r ≡ true → OnOk r P → P
from_ok P (Ok x) e h = h
from_ok P (Err x) e h = absurd (cc e)

module _ {S : Type 0} where
  -- what holds of each seat holds of each worker's seat
  pub of_each : (P : S → Type 0) (ws : List (Worker S)) (seats : List S) → seats_of ws ≡ seats → All P seats → (k : ℕ) (d : Worker S) → k < length ws → P (slice_index_or ws k d).seat
  of_each P ws seats e all = by ws (subst (λ (l : List S). All P l) (sym e) all)
    where
      by : (ws : List (Worker S)) → All P (seats_of ws) → (k : ℕ) (d : Worker S) → k < length ws → P (slice_index_or ws k d).seat
      by [] all k d h = absurd (omega arith)
      by (w ∷ ws) all zero d h = all 0 d.seat (omega arith)
      by (w ∷ ws) all (suc k) d h = by ws (λ j s inside. all (suc j) s (omega arith)) k d (omega arith)

  all_from : (P : S → Type 0) (ws : List (Worker S)) → ((k : ℕ) (d : Worker S) → k < length ws → P (slice_index_or ws k d).seat) → All P (seats_of ws)
  all_from P [] each k s h = absurd (omega arith)
  all_from P (w ∷ ws) each zero s h = each 0 w (omega arith)
  all_from P (w ∷ ws) each (suc k) s h = all_from P ws (λ j d inside. each (suc j) d (omega arith)) k s (omega arith)

  ok_at : (ws : List (Worker S)) → all_ok ws ≡ true → (k : ℕ) (d : Worker S) → k < length ws → is_ok (slice_index_or ws k d).result ≡ true
  ok_at [] e k d h = absurd (omega arith)
  ok_at (w ∷ ws) e zero d h = (both (is_ok w.result) (all_ok ws) e).0
  ok_at (w ∷ ws) e (suc k) d h = ok_at ws (both (is_ok w.result) (all_ok ws) e).1 k d (omega arith)

module _ {S L : Type 0} (owns : S → Type 0) (lock : S → L) (number : S → ℕ) (rests : S → Type 0) where
  -- each seat is the bench's own still
  pub own_after : (ws after : List (Worker S)) → length after ≡ length ws → EachLeaves owns lock number rests ws after → All owns (seats_of after)
  own_after ws after same left = all_from owns after (λ k d h. (left k d (omega (arith, h, same))).own)

  -- the seats have their places still
  pub places_after : (ws after : List (Worker S)) → length after ≡ length ws → EachLeaves owns lock number rests ws after
      → (map lock (seats_of after) ≡ map lock (seats_of ws)) × (map number (seats_of after) ≡ map number (seats_of ws))
  places_after [] [] same left = (refl, refl)
  places_after [] (x ∷ after) same left = absurd (omega (arith, same))
  places_after (w ∷ ws) [] same left = absurd (omega (arith, same))
  places_after (w ∷ ws) (x ∷ after) same left =
      let first = left 0 w (omega arith) in
      let rest = places_after ws after (omega (arith, same)) (λ k d h. left (suc k) d (omega (arith, h))) in
      ((λ i. first.same_lock i ∷ rest.0 i), (λ i. first.same_number i ∷ rest.1 i))

  -- where each worker answered Ok, each seat is at rest
  pub rest_after : (ws after : List (Worker S)) → length after ≡ length ws → EachLeaves owns lock number rests ws after → all_ok after ≡ true → All rests (seats_of after)
  rest_after ws after same left ok = all_from rests after (λ k d h. from_ok (rests (slice_index_or after k d).seat) (slice_index_or after k d).result (ok_at after ok k d h) (left k d (omega (arith, h, same))).rest)

take_nil : {A : Type 0} (n : ℕ) → ◌≡◌ {A = List A} (take n []) []
take_nil zero = refl
take_nil (suc n) = refl

-- a slice of the whole list, written back
pub whole : {A : Type 0} (new old : List A) (n : ℕ) → length new ≡ length old → n ≡ length old → take n (new ++ drop (length new) old) ≡ new
whole [] [] n e m = take_nil n
whole [] (y ∷ old) n e m = absurd (omega arith)
whole (x ∷ new) [] n e m = absurd (omega arith)
whole (x ∷ new) (y ∷ old) zero e m = absurd (omega arith)
whole (x ∷ new) (y ∷ old) (suc n) e m = λ i. x ∷ whole new old n (omega arith) (omega arith) i

-- from what an Ok tells
pub rested : {A E : Type 0} (r : Result A E) (P Q : Type 0) → OnOk r P → (P → Q) → OnOk r Q
rested (Ok x) P Q h f = f h
rested (Err e) P Q h f = tt
