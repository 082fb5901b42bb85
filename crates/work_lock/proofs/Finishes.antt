-- What lies in the slot once every seat was gathered.
use Rattle.std.proofs.Common.{◌≡◌, ℕ, zero, suc, List, ◌∷◌, map, length, sym, ap, ◌∙◌, subst, arith, add-one, Some}
use Rattle.std.specs.declared.option.Option as rattle
use Rattle.std.proofs.lemmas.List.{length-map}
use mathlib.Core.Option.{some, some-injective}
use lib.ListN.{get_elem?}
use Rattle.atomic_table.specs.Seated.{TableId}
use Rattle.atomic_table.specs.Table.{Final, Seen}
use Rattle.atomic_table.proofs.Lists.{at_map}
use Rattle.def_record.specs.declared.made.Made.{Made}
use Rattle.work_lock.specs.declared.view.View.{View}
use Rattle.work_lock.specs.declared.seat.Seat.{Seat}
use Rattle.work_lock.specs.Rule.{Kept}
use Rattle.def_record.specs.Makers.{FollowsAmong}
use Rattle.work_lock.specs.Seats.{Place, seen_of, AreSeats, AllWithin}
use Rattle.work_lock.specs.Within.{gathered}
use Rattle.work_lock.proofs.Ends.{Ends, ends}
use Rattle.work_lock.proofs.SeatLists.{parted}

module _ {V E : Type 0} (entries : V → List (Made E)) where
  begin_at : (n : ℕ) (f : Seat V E) (rest : List (Seat V E)) (x : V) (s : Seat V E) → Ends entries n (gathered f.at.me.0 (map seen_of rest)) x → (k : ℕ) → get_elem? (f ∷ rest) k ≡ some s → FollowsAmong n k (seen_of s) (entries x)
  begin_at n f rest x s h zero at = subst (λ (z : Seat V E). FollowsAmong n 0 (seen_of z) (entries x)) (some-injective f s at) h.0
  begin_at n f rest x s h (suc k) at = subst (λ (j : ℕ). FollowsAmong n j (seen_of s) (entries x)) (add-one k) (h.1 k (seen_of s) (at_map seen_of rest k s at))

  -- the value's history begins with what each seat has seen
  all_begin : (n : ℕ) (f : Seat V E) (rest seats : List (Seat V E)) (x : V) → seats ≡ f ∷ rest → Ends entries n (gathered f.at.me.0 (map seen_of rest)) x → AllWithin n (entries x) seats
  all_begin n f rest seats x e h k s at = begin_at n f rest x s h k (ap (λ (l : List (Seat V E)). get_elem? l k) (sym e) ∙ at)

  -- a value is there, and each seat has seen a prefix of its history
  pub finishes : (lock : TableId) (seats rest : List (Seat V E)) (f : Seat V E) (id : ℕ) (v : View E) (ws : List ℕ) (xs : List (rattle.Option V)) (found : rattle.Option V)
      → seats ≡ f ∷ rest → AreSeats lock (length seats) seats → v ≡ gathered f.at.me.0 (map seen_of rest) → Final (Seen (Kept entries) id v) ws xs → get_elem? xs 0 ≡ some found
      → (x : V) × (found ≡ Some x) × AllWithin (length seats) (entries x) seats
  finishes lock seats rest f id v ws xs found e all is final there =
      let p = parted lock (length seats) seats rest f e all in
      let g : View E = gathered f.at.me.0 (map seen_of rest) in
      let final' : Final (Seen (Kept entries) id g) ws xs = subst (λ (z : View E). Final (Seen (Kept entries) id z) ws xs) is final in
      let count = p.count in
      let dealt_all : f.at.me.0.dealt ≡ length seats = ap (λ (z : Place). z.dealt) p.place in
      let mapped : length (map seen_of rest) ≡ length rest = length-map rest seen_of in
      let end = ends entries id g ws xs p.resting.0 (omega arith) (omega arith) final' in (
        end.0,
        some-injective found (Some end.0) (sym there ∙ end.1),
        all_begin (length seats) f rest seats end.0 e (subst (λ (n : ℕ). Ends entries n g end.0) dealt_all end.2),
      )
