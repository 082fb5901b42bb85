-- The maker of the last item has seen it all.
use Rattle.std.proofs.Common.{◌≡◌, ◌≢◌, inl, inr, ◌⊎◌, ℕ, zero, suc, ◌<◌, ◌≤◌, sym, refl, ap, subst, ◌∙◌, arith, List, [], ◌∷◌, ◌++◌, append-nil, length, Some, Bool, true, false, nat_lt}
use Rattle.std.proofs.lemmas.Bool.{ltb-true, ltb-false}
use mathlib.Core.Option.{some}
use lib.ListN.{get_elem?}
use Rattle.def_machine.specs.Machine.{Machine}
use Rattle.def_record.specs.declared.made.Made.{Made}
use Rattle.def_record.specs.Makers.{Unmade}
use Rattle.def_record.specs.Makers.{FollowsAmong}
use Rattle.def_record.specs.Items.{ItemOf, Record}
use Rattle.def_record.specs.Records.{Now, IsOpen, moved, now_of, AllFollow, IsRecord}
use Rattle.def_record.specs.Rests.{SeesRest, AreSeen, RestLaw}
use Rattle.def_record.proofs.Follows.{record_split, open_moved, has_maker}

-- the last of a list, or else this one
last_or : {A : Type 0} → A → List A → A
last_or x [] = x
last_or x (y ∷ ys) = last_or y ys

last_join : {A : Type 0} (d : A) (xs : List A) (y : A) (ys : List A) → last_or d (xs ++ y ∷ ys) ≡ last_or y ys
unfolding last_or
last_join d [] y ys = refl
last_join d (x ∷ xs) y ys = last_join x xs y ys

-- an element at each place
there_at : {A : Type 0} (xs : List A) (k : ℕ) → k < length xs → (x : A) × (get_elem? xs k ≡ some x)
there_at [] k h = absurd (omega arith)
there_at (x ∷ xs) zero h = (x, refl)
there_at (x ∷ xs) (suc k) h = there_at xs k (omega arith)

module _ {M : Machine} where
  unmade_last : (k : ℕ) (y : Made (ItemOf M)) (ys : Record M) → Unmade k (y ∷ ys) → (last_or y ys).maker ≢ Some k
  unfolding last_or
  unmade_last k y [] h = h.0
  unmade_last k y (z ∷ zs) h = unmade_last k z zs h.1

  maker_last : (n : Now M) (y : Made (ItemOf M)) (ys : Record M) → IsOpen n → AllFollow n (y ∷ ys) → (j : ℕ) × ((last_or y ys).maker ≡ Some j)
  unfolding last_or
  maker_last n y [] o h = has_maker n y.entry y.maker o h.0
  maker_last n y (z ∷ zs) o h = maker_last (moved n y.entry y.maker) z zs (open_moved n y.entry y.maker o) h.1

  -- one of the seats has seen the whole record
  abbrev OneSawAll : List (Record M) → Record M → Type 0
  OneSawAll seen r = (k : ℕ) × (xs : Record M) × (get_elem? seen k ≡ some xs) × (xs ≡ r)

  -- the seat that made the last item
  by_maker : (r : Record M) (seen : List (Record M)) (j : ℕ) (l : Made (ItemOf M)) → ((d : Made (ItemOf M)) → last_or d r ≡ l) → l.maker ≡ Some j → (xs : Record M) → get_elem? seen j ≡ some xs
      → FollowsAmong (length seen) j xs r → OneSawAll seen r
  by_maker r seen j l end is xs at f = go f.0 f.1 f.2
    where
      go : (rest : Record M) → xs ++ rest ≡ r → ((k : ℕ) → (k ≡ j) ⊎ (length seen ≤ k) → Unmade k rest) → OneSawAll seen r
      go [] e u = (j, xs, at, sym (append-nil xs) ∙ e)
      go (z ∷ zs) e u =
          let same : last_or z zs ≡ l = sym (last_join z xs z zs) ∙ (ap (last_or z) e ∙ end z) in
          absurd (unmade_last j z zs (u j (inl refl)) (ap (λ (i : Made (ItemOf M)). i.maker) same ∙ is))

  pub one_saw_all : (r : Record M) (seen : List (Record M)) → IsRecord r → AreSeen seen r → (xs : Record M) → get_elem? seen 0 ≡ some xs → (n : Now M) → now_of xs ≡ Some n → IsOpen n → OneSawAll seen r
  one_saw_all r seen rec all xs at n left o = go (all 0 xs at).0 (all 0 xs at).1 (all 0 xs at).2
    where
      by : (j : ℕ) → (y : Made (ItemOf M)) (ys : Record M) → (last_or y ys).maker ≡ Some j → ((k : ℕ) → (k ≡ 0) ⊎ (length seen ≤ k) → Unmade k (y ∷ ys)) → ((d : Made (ItemOf M)) → last_or d r ≡ last_or y ys)
          → (b : Bool) → nat_lt j (length seen) ≡ b → OneSawAll seen r
      by j y ys is u end true g = let t = there_at seen j (ltb-true _ _ g) in by_maker r seen j (last_or y ys) end is t.0 t.1 (all j t.0 t.1)
      by j y ys is u end false g = absurd (unmade_last j y ys (u j (inr (ltb-false _ _ g))) is)

      go : (rest : Record M) → xs ++ rest ≡ r → ((k : ℕ) → (k ≡ 0) ⊎ (length seen ≤ k) → Unmade k rest) → OneSawAll seen r
      go [] e u = (0, xs, at, sym (append-nil xs) ∙ e)
      go (y ∷ ys) e u =
          let f = record_split xs (y ∷ ys) n (subst (λ (q : Record M). IsRecord q) (sym e) rec) left in
          let m = maker_last n y ys o f.0 in
          let end : (d : Made (ItemOf M)) → last_or d r ≡ last_or y ys = λ d. ap (last_or d) (sym e) ∙ last_join d xs y ys in
          by m.0 y ys m.1 u end (nat_lt m.0 (length seen)) refl

pub rest_law : (M : Machine) → RestLaw M
rest_law M r seen rec filled all rest =
    let first = there_at seen 0 filled in
    let start = rest 0 first.0 first.1 in
    let one = one_saw_all r seen rec all first.0 first.1 start.now start.left start.open_now in
    subst (λ (q : Record M). SeesRest M q) one.3 (rest one.0 one.1 one.2)
