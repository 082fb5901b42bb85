-- Lists of a lock's seats: how they are dealt and gathered, and that they stay what they are.
use Rattle.std.proofs.Common.{◌≡◌, ◌≢◌, ⊎_elim, ℕ, zero, suc, ◌+◌, ◌<◌, List, [], ◌∷◌, ◌++◌, map, length, get_or, take, drop, set, sym, refl, ap, ◌∙◌, subst, arith, add-one, length-set, length-append}
use Rattle.std.specs.declared.option.Option as rattle
use Rattle.std.proofs.lemmas.List.{nil_from_length}
use mathlib.Core.Option.{some, some-ne-none}
use mathlib.Core.List.{map-append}
use lib.ListN.{get_elem?}
use Rattle.atomic_table.specs.Seated.{TableId}
use Rattle.atomic_table.specs.Table.{Me}
use Rattle.atomic_table.proofs.Lists.{at_set}
use Rattle.def_record.specs.declared.made.Made.{Made}
use Rattle.work_lock.specs.declared.view.View.{View}
use Rattle.work_lock.specs.declared.seat.Seat.{Seat}
use Rattle.work_lock.specs.Steps.{dealer, dealt, both_of}
use Rattle.work_lock.specs.Seats.{Place, place_at, place_of, lock_of, number_of, seen_of, IsAtRest, AreSeats, AllSaw}
use Rattle.work_lock.specs.Within.{gathered, IsDealer, AreOthers}
use Rattle.work_lock.proofs.Lists.{at_end, there_is, within}

-- each place of a lock has its identity
pub place_at-lock : (lock : TableId) (n k : ℕ) → (place_at lock n k).lock ≡ lock
place_at-lock lock n zero = refl
place_at-lock lock n (suc k) = refl

-- a seat after the first keeps its place where there are more
later : (lock : TableId) (n m k : ℕ) → k ≢ 0 → place_at lock n k ≡ place_at lock m k
later lock n m zero other = absurd (other refl)
later lock n m (suc k) other = refl

-- the place of the seat dealt last
last_place : (lock : TableId) (m n : ℕ) → 0 < n → (number : ℕ) → number ≡ n → ◌≡◌ {A = Place} (record { lock = lock; number = number; dealt = 0; joined = 0 }) (place_at lock m n)
last_place lock m zero above number is = absurd (omega arith)
last_place lock m (suc n) above number is = λ i. record { lock = lock; number = is i; dealt = 0; joined = 0 }

module _ {V E : Type 0} where
  -- a seat's place, put together from its parts
  pub place_is : (s : Seat V E) (p : Place) → lock_of s ≡ p.lock → number_of s ≡ p.number → s.at.me.0.dealt ≡ p.dealt → length s.at.me.0.joined ≡ p.joined → place_of s ≡ p
  place_is s p lock number dealt joined i = record { lock = lock i; number = number i; dealt = dealt i; joined = joined i }

  -- Seats that kept their places and hold no turn are a lock's seats still. This is what a caller has of its seats after any calls.
  pub still_seats : (lock : TableId) (n : ℕ) (seats after : List (Seat V E)) → AreSeats lock n seats → length after ≡ length seats
      → ((k : ℕ) (s t : Seat V E) → get_elem? seats k ≡ some s → get_elem? after k ≡ some t → (place_of t ≡ place_of s) × IsAtRest t)
      → AreSeats lock n after
  still_seats lock n seats after all same kept = (
    same ∙ all.0,
    λ k t at.
        let inside = within after k t at in
        let was = there_is seats k (omega arith) in
        let now = kept k was.0 t was.1 at in (now.0 ∙ (all.1 k was.0 was.1).0, now.1),
  )

  -- the same seats under another name for their number
  pub all_of : (lock : TableId) (n : ℕ) (l m : List (Seat V E)) → m ≡ l → AreSeats lock n l → (length m ≡ n) × AreSeats lock (length m) m
  all_of lock n l m e all = subst (λ (z : List (Seat V E)). (length z ≡ n) × AreSeats lock (length z) z) (sym e) (all.0, subst (λ (k : ℕ). AreSeats lock k l) (sym all.0) all)

  -- the first seat deals one more
  pub deals_one : (lock : TableId) (n : ℕ) (seats : List (Seat V E)) (f g next : Seat V E) → 0 < n → AreSeats lock n seats → get_elem? seats 0 ≡ some f
      → lock_of g ≡ lock → g.number ≡ f.number → g.at.me ≡ (dealer f.at.me.0, f.at.me.1) → lock_of next ≡ lock → next.number ≡ n → next.at.me ≡ (dealt f.at.me.0, [])
      → AreSeats lock (n + 1) (set seats 0 g ++ next ∷ [])
  deals_one lock n seats f g next above all at g_lock g_number g_is n_lock n_number n_is =
      let q = all.1 0 f at in
      let K : ℕ → Seat V E → Type 0 = λ k s. (place_of s ≡ place_at lock (n + 1) k) × IsAtRest s in
      let first : K 0 g = (
        place_is g (place_at lock (n + 1) 0) g_lock (g_number ∙ ap (λ (z : Place). z.number) q.0) (ap (λ m. m.0.dealt) g_is ∙ ap (λ (z : Place). z.dealt + 1) q.0) (ap (λ m. length m.0.joined) g_is ∙ ap (λ (z : Place). z.joined) q.0),
        (ap (λ m. m.0.stage) g_is ∙ q.1.0, ap (λ m. m.1) g_is ∙ q.1.1, ap (λ m. m.0.number) g_is ∙ (q.1.2 ∙ sym g_number)),
      ) in
      let last : K n next = (
        place_is next (record { lock = lock; number = n; dealt = 0; joined = 0 }) n_lock n_number (ap (λ m. m.0.dealt) n_is) (ap (λ m. length m.0.joined) n_is) ∙ last_place lock (n + 1) n above n refl,
        (ap (λ m. m.0.stage) n_is, ap (λ m. m.1) n_is, ap (λ m. m.0.number) n_is ∙ (ap (λ (z : Place). z.dealt) q.0 ∙ sym n_number)),
      ) in
      let same : length (set seats 0 g) ≡ n = length-set seats 0 g ∙ all.0 in (
        length-append (set seats 0 g) (next ∷ []) ∙ ap (λ (k : ℕ). k + 1) same,
        λ k s e. ⊎_elim
            (λ h. ⊎_elim
            (λ (t : (k ≡ 0) × (g ≡ s)). subst (λ (z : ℕ × Seat V E). K z.0 z.1) (λ i. (sym t.0 i, t.1 i)) first)
            (λ (t : (k ≢ 0) × (get_elem? seats k ≡ some s)). let o = all.1 k s t.1 in (o.0 ∙ later lock n (n + 1) k t.0, o.1))
            (at_set seats 0 k g s h))
            (λ (t : (k ≡ length (set seats 0 g)) × (next ≡ s)). subst (λ (z : ℕ × Seat V E). K z.0 z.1) (λ i. ((sym same ∙ sym t.0) i, t.1 i)) last)
            (at_end (set seats 0 g) next s k e),
      )

  -- the seat dealt has seen what the first has
  pub saw_one : (xs : List (Made E)) (seats : List (Seat V E)) (f g next : Seat V E) → AllSaw xs seats → get_elem? seats 0 ≡ some f → g.at.me ≡ (dealer f.at.me.0, f.at.me.1) → next.at.me ≡ (dealt f.at.me.0, [])
      → AllSaw xs (set seats 0 g ++ next ∷ [])
  saw_one xs seats f g next all at g_is n_is k s e = ⊎_elim
      (λ h. ⊎_elim
      (λ (t : (k ≡ 0) × (g ≡ s)). ap seen_of (sym t.1) ∙ (ap (λ m. m.0.seen) g_is ∙ all 0 f at))
      (λ (t : (k ≢ 0) × (get_elem? seats k ≡ some s)). all k s t.1)
      (at_set seats 0 k g s h))
      (λ (t : (k ≡ length (set seats 0 g)) × (next ≡ s)). ap seen_of (sym t.1) ∙ (ap (λ m. m.0.seen) n_is ∙ all 0 f at))
      (at_end (set seats 0 g) next s k e)

  -- a lock of one seat
  pub first_alone : (lock : TableId) (s : Seat V E) → IsDealer lock 1 s → AreSeats lock 1 (s ∷ []) × AllSaw (seen_of s) (s ∷ [])
  first_alone lock s d = (
    (
      refl,
      λ k t e. ⊎_elim (λ h. absurd (some-ne-none t (sym h)))
          (λ (h : (k ≡ 0) × (s ≡ t)). subst (λ (z : ℕ × Seat V E). (place_of z.1 ≡ place_at lock 1 z.0) × IsAtRest z.1) (λ i. (sym h.0 i, h.1 i)) d) (at_end [] s t k e),
    ),
    λ k t e. ⊎_elim (λ h. absurd (some-ne-none t (sym h))) (λ (h : (k ≡ 0) × (s ≡ t)). ap seen_of (sym h.1)) (at_end [] s t k e),
  )

  -- a list of seats as its first and the rest
  pub split_first : (seats new : List (Seat V E)) (f : Seat V E) → 0 < length seats → f ≡ get_or seats 0 f → new ≡ take 0 seats ++ drop (0 + 1) seats → seats ≡ f ∷ new
  split_first [] new f some_seat is rest = absurd (omega arith)
  split_first (s ∷ ss) new f some_seat is rest = λ i. sym is i ∷ sym rest i

  -- what the first and the rest of a lock's seats are
  pub record AreParted (lock : TableId) (n : ℕ) (f : Seat V E) (rest : List (Seat V E)) : Type 0 where
    pub others : AreOthers lock rest
    pub place : place_of f ≡ place_at lock n 0
    pub resting : IsAtRest f
    pub alone : f.at.me.0.joined ≡ []
    pub count : length rest + 1 ≡ n

  pub parted : (lock : TableId) (n : ℕ) (seats rest : List (Seat V E)) (f : Seat V E) → seats ≡ f ∷ rest → AreSeats lock n seats → AreParted lock n f rest
  parted lock n seats rest f e all = let a : AreSeats lock n (f ∷ rest) = subst (AreSeats lock n) e all in let q = a.1 0 f refl in record {
    others = λ k s at. let h = a.1 (suc k) s at in (ap (λ (z : Place). z.lock) h.0, ap (λ (z : Place). z.number) h.0 ∙ sym (add-one k), h.1);
    place = q.0;
    resting = q.1;
    alone = nil_from_length f.at.me.0.joined (ap (λ (z : Place). z.joined) q.0);
    count = add-one (length rest) ∙ a.0;
  }

  -- the first seat takes in what one more has seen
  pub gathers_one : (v : View E) (ys : List (Seat V E)) (x : Seat V E) (m : Me (rattle.Option V) (View E)) (w : View E) → m ≡ (gathered v (map seen_of ys), []) → w ≡ x.at.me.0 → ◌≡◌ {A = Me (rattle.Option V) (View E)} (both_of m.0 w, m.1) (gathered v (map seen_of (ys ++ x ∷ [])), [])
  gathers_one v ys x m w is seen =
      let P : View E → List (List (Made E)) → Me (rattle.Option V) (View E) = λ z l. (gathered v l, []) in
      let one : ◌≡◌ {A = Me (rattle.Option V) (View E)} (both_of m.0 w, m.1) (P w (map seen_of ys ++ w.seen ∷ [])) = λ i. (both_of (is i).0 w, (is i).1) in
      let two : P w (map seen_of ys ++ w.seen ∷ []) ≡ P w (map seen_of ys ++ seen_of x ∷ []) = λ i. P w (map seen_of ys ++ (seen i).seen ∷ []) in
      let three : P w (map seen_of ys ++ seen_of x ∷ []) ≡ P w (map seen_of (ys ++ x ∷ [])) = λ i. P w (sym (map-append seen_of ys (x ∷ [])) i) in
      one ∙ (two ∙ three)
