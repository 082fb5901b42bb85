-- What lies below an update is alike before and after an event, on the relations that the event doesn't touch there.
use Rattle.std.proofs.Common.{◌≡◌, ℕ, zero, suc, ◌<◌, ◌≤◌, ◌+◌, ◌-◌, ap, sym, refl, subst, ◌∙◌, List, [], ◌∷◌, ◌++◌, take, drop, length, append_assoc, Bool, true, false, arith, Some}
use Rattle.std.specs.Prelude.{if◌then◌else◌, Option, slice_get, nat_lt}
use Rattle.std.specs.List.{flat_map}
use Rattle.std.proofs.lemmas.Bool.{or_right, ltb-true, ltb-false, both_ways}
use Rattle.std.proofs.lemmas.Option.{same_Some, none-some, slice_get_within}
use Rattle.def_machine.specs.Machine.{Machine, Laws, Avoids}
use Rattle.def_machine.specs.Updates.{Update, Session, Settings, hides, shown, trail, below, committed}
use Rattle.def_machine.specs.Cascade.{readers, has_number, restarted, begun_again}
use Rattle.def_machine.specs.Steps.{next_move, stepped}
use Rattle.def_machine.specs.Effects.{Event, Admits, Steps, Delivers, Answers, Withdraws, Effect, causes_of_loss, causes_of_step, withdrawn_now, with_answers, step_effect, withdraw_effect, deliver_effect, answer_effect, may_step, may_deliver, may_answer, may_withdraw, effect}
use Rattle.def_machine.specs.Local.{acts_on}
use Rattle.def_machine.specs.CauseLaw.{members_of}
use Rattle.def_machine.specs.Stamps.{AlikeSwaps, hidden_by, loses, IsUntouched, StampLaw}
use Rattle.def_machine.proofs.Basics.{if_both, if_true, if_false, length_from}
use Rattle.def_machine.proofs.Settling.{AvoidsAll, avoids_split}
use Rattle.def_machine.proofs.Walks.{here, restarted_none}
use Rattle.def_machine.proofs.Standing.{ready_parts}
use Rattle.def_machine.proofs.Places.{allowed_is, sound_below, IsAllowed}
use Rattle.def_machine.proofs.Local.{local_law}

has_join : (ns ms : List ℕ) (k : ℕ) → has_number ms k ≡ true → has_number (ns ++ ms) k ≡ true
has_join [] ms k h = h
has_join (n ∷ ns) ms k h = or_right _ _ (has_join ns ms k h)

module _ (M : Machine) (L : Laws M) (swap : AlikeSwaps M) (p : ℕ → Bool) where
  -- the trails of two lists, of which the second is the first with some restarted
  alike_restarted : (ns ms : List ℕ) (n k : ℕ) (us : List (Update M)) (D E : M.Repository) → ((m : ℕ) → has_number ms m ≡ true → has_number ns m ≡ true) → M.Alike p D E → AvoidsAll M p (members_of M ns n (take k us))
      → M.Alike p (M.apply D (flat_map (trail M) (take k us))) (M.apply E (flat_map (trail M) (take k (restarted M ms n us))))
  alike_restarted ns ms n zero us D E h a v = L.alike_apply p D E [] a
  alike_restarted ns ms n (suc k) [] D E h a v = L.alike_apply p D E [] a
  alike_restarted ns ms n (suc k) (u ∷ us) D E h a v =
      let rest : List M.Write = flat_map (trail M) (take k us) in
      let more : List M.Write = flat_map (trail M) (take k (restarted M ms (suc n) us)) in
      let parts = avoids_split M p (if has_number ns n then record { number = n; trail = trail M u } ∷ [] else []) (members_of M ns (suc n) (take k us)) v in
      subst (λ F. M.Alike p F (M.apply E (trail M (if has_number ms n then begun_again M n u else u) ++ more))) (sym (L.apply_join D (trail M u) rest))
      (subst (λ F. M.Alike p (M.apply (M.apply D (trail M u)) rest) F) (sym (L.apply_join E (trail M (if has_number ms n then begun_again M n u else u)) more))
      (alike_restarted ns ms (suc n) k us (M.apply D (trail M u)) (M.apply E (trail M (if has_number ms n then begun_again M n u else u))) h (by (has_number ms n) refl (has_number ns n) refl parts.0) parts.1))
    where
      none : trail M (begun_again M n u) ≡ []
      none = if_both (λ ws. ws ≡ []) u.withdrawn _ _ (λ g. refl)
          (λ g. if_both (λ ws. ws ≡ []) (hides (M.outcome (M.begin n (suc u.attempt) u.operation))) _ _ (λ f. refl) (λ f. L.begin_own n (suc u.attempt) u.operation))

      by : (b : Bool) → has_number ms n ≡ b → (c : Bool) → has_number ns n ≡ c → AvoidsAll M p (if c then record { number = n; trail = trail M u } ∷ [] else []) → M.Alike p (M.apply D (trail M u)) (M.apply E (trail M (if b then begun_again M n u else u)))
      by false e c f v = L.alike_apply p D E (trail M u) a
      by true e true f v = subst (λ F. M.Alike p (M.apply D (trail M u)) F) (sym (ap (λ ws. M.apply E ws) none ∙ L.apply_none E)) (L.alike_skip p D E (trail M u) v.0 a)
      by true e false f v = absurd (both_ways _ f (h n e))

  -- the trail of an update that becomes v: it goes, or grows by the writes
  alike_grown : (D : M.Repository) (ws vs : List M.Write) → M.Sound D → Avoids M p vs → M.Alike p (M.apply D ws) (M.apply D (ws ++ vs))
  alike_grown D ws vs z a =
      let same : M.Alike p (M.apply D ws) (M.apply D ws) = L.alike_same p (M.apply D ws) (L.sound_apply D ws z) in
      subst (λ F. M.Alike p (M.apply D ws) F) (sym (L.apply_join D ws vs)) (swap p _ _ (L.alike_skip p (M.apply D ws) (M.apply D ws) vs a same))

-- the first k of a list, where the one at place q becomes v and those above it change
taken_put : {A : Type 0} (us : List A) (q d k : ℕ) (u v : A) (vs : List A) → slice_get us q ≡ Some u → k ≡ q + suc d → (take k us ≡ take q us ++ u ∷ take d (drop (suc q) us)) × (take k (take q us ++ v ∷ vs) ≡ take q us ++ v ∷ take d vs)
taken_put [] q d k u v vs h e = absurd (none-some u h)
taken_put (w ∷ us) q d zero u v vs h e = absurd (omega arith)
taken_put (w ∷ us) zero d (suc k) u v vs h e =
    let f : k ≡ d = omega arith in ((λ i. same_Some w u h i ∷ take (f i) us), (λ i. v ∷ take (f i) vs))
taken_put (w ∷ us) (suc q) d (suc k) u v vs h e =
    let r = taken_put us q d k u v vs h (omega arith) in (ap (λ xs. w ∷ xs) r.0, ap (λ xs. w ∷ xs) r.1)

flat_join : (M : Machine) (us vs : List (Update M)) → flat_map (trail M) (us ++ vs) ≡ flat_map (trail M) us ++ flat_map (trail M) vs
flat_join M [] vs = refl
flat_join M (u ∷ us) vs = ap (λ ws. trail M u ++ ws) (flat_join M us vs) ∙ sym (append_assoc (trail M u) (flat_map (trail M) us) (flat_map (trail M) vs))

members_join : (M : Machine) (ns : List ℕ) (n m : ℕ) (us vs : List (Update M)) → m ≡ n + length us → members_of M ns n (us ++ vs) ≡ members_of M ns n us ++ members_of M ns m vs
members_join M ns n m [] vs e = let f : n ≡ m = omega arith in ap (λ k. members_of M ns k vs) f
members_join M ns n m (u ∷ us) vs e =
    ap (λ ms. (if has_number ns n then record { number = n; trail = trail M u } ∷ [] else []) ++ ms) (members_join M ns (suc n) m us vs (omega (arith, e)))
    ∙ sym (append_assoc (if has_number ns n then record { number = n; trail = trail M u } ∷ [] else []) (members_of M ns (suc n) us) (members_of M ns m vs))

length_taken : {A : Type 0} (us : List A) (q : ℕ) → q ≤ length us → length (take q us) ≡ q
length_taken us zero h = refl
length_taken [] (suc q) h = absurd (omega arith)
length_taken (u ∷ us) (suc q) h = ap suc (length_taken us q (omega arith))

module _ (M : Machine) (L : Laws M) (swap : AlikeSwaps M) (D : M.Repository) (us : List (Update M)) (z : M.Sound D) where
  laid : (q d : ℕ) (u : Update M) (vs : List (Update M)) → M.apply D (flat_map (trail M) (take q us ++ u ∷ take d vs)) ≡ M.apply (M.apply (below M D us q) (trail M u)) (flat_map (trail M) (take d vs))
  laid q d u vs =
      ap (λ ws. M.apply D ws) (flat_join M (take q us) (u ∷ take d vs)) ∙ L.apply_join D (flat_map (trail M) (take q us)) (trail M u ++ flat_map (trail M) (take d vs))
      ∙ L.apply_join (below M D us q) (trail M u) (flat_map (trail M) (take d vs))

  -- the update at place q becomes v, and those above it are restarted by the numbers ms
  put_alike : (p : ℕ → Bool) (ns ms : List ℕ) (q k : ℕ) (u v : Update M) → slice_get us q ≡ Some u → suc q ≤ k → ((m : ℕ) → has_number ms m ≡ true → has_number ns m ≡ true)
      → AvoidsAll M p (members_of M ns 1 (take k us))
      → (AvoidsAll M p (if has_number ns (suc q) then record { number = suc q; trail = trail M u } ∷ [] else []) → M.Alike p (M.apply (below M D us q) (trail M u)) (M.apply (below M D us q) (trail M v)))
      → M.Alike p (below M D us k) (below M D (take q us ++ v ∷ restarted M ms (suc (suc q)) (drop (suc q) us)) k)
  put_alike p ns ms q k u v h l sub gone own =
      let d : ℕ = k - suc q in
      let upper : List (Update M) = drop (suc q) us in
      let e : k ≡ q + suc d = omega (arith, l) in
      let t = taken_put us q d k u v (restarted M ms (suc (suc q)) upper) h e in
      let number : suc q ≡ 1 + length (take q us) = omega (arith, length_taken us q (length_from us q u h)) in
      let all : AvoidsAll M p (members_of M ns 1 (take q us) ++ members_of M ns (suc q) (u ∷ take d upper)) =
      subst (λ xs. AvoidsAll M p xs) (ap (λ xs. members_of M ns 1 xs) t.0 ∙ members_join M ns 1 (suc q) (take q us) (u ∷ take d upper) number) gone in
      let parts = avoids_split M p (if has_number ns (suc q) then record { number = suc q; trail = trail M u } ∷ [] else []) (members_of M ns (suc (suc q)) (take d upper)) (avoids_split M p (members_of M ns 1 (take q us)) (members_of M ns (suc q) (u ∷ take d upper)) all).1 in
      subst (λ F. M.Alike p F (below M D (take q us ++ v ∷ restarted M ms (suc (suc q)) upper) k)) (sym (ap (λ xs. M.apply D (flat_map (trail M) xs)) t.0 ∙ laid q d u upper))
      (subst (λ F. M.Alike p (M.apply (M.apply (below M D us q) (trail M u)) (flat_map (trail M) (take d upper))) F) (sym (ap (λ xs. M.apply D (flat_map (trail M) xs)) t.1 ∙ laid q d v (restarted M ms (suc (suc q)) upper)))
      (alike_restarted M L swap p ns ms (suc (suc q)) d upper (M.apply (below M D us q) (trail M u)) (M.apply (below M D us q) (trail M v)) sub (own parts.0) parts.1))

trail_open : (M : Machine) (u : Update M) → u.withdrawn ≡ false → hides (M.outcome u.state) ≡ false → trail M u ≡ M.own u.state
trail_open M u w h = if_false u.withdrawn [] (shown M u.state) w ∙ if_false (hides (M.outcome u.state)) [] (M.own u.state) h

trail_hidden : (M : Machine) (u : Update M) → hides (M.outcome u.state) ≡ true → trail M u ≡ []
trail_hidden M u h = if_both (λ ws. ws ≡ []) u.withdrawn [] (shown M u.state) (λ w. refl) (λ w. if_true (hides (M.outcome u.state)) [] (M.own u.state) h)

module _ (M : Machine) (L : Laws M) (swap : AlikeSwaps M) (s : Settings) (S : Session M) (us : List (Update M)) (z : M.Sound S.base) where
  abbrev D : ℕ → M.Repository
  D k = below M S.base us k

  sound : (k : ℕ) → M.Sound (D k)
  sound k = sound_below M L S.base us k z

  -- a trail that goes
  lost : (p : ℕ → Bool) (q : ℕ) (ws vs : List M.Write) → vs ≡ [] → Avoids M p ws → M.Alike p (M.apply (D q) ws) (M.apply (D q) vs)
  lost p q ws vs e a = subst (λ F. M.Alike p (M.apply (D q) ws) F) (sym (ap (λ xs. M.apply (D q) xs) e ∙ L.apply_none (D q))) (L.alike_skip p (D q) (D q) ws a (L.alike_same p (D q) (sound q)))

  step_alike : (p : ℕ → Bool) (q k : ℕ) (u : Update M) → slice_get us q ≡ Some u → may_step M s us q u ≡ true → suc q ≤ k → IsUntouched M S.base us (Steps (suc q)) (step_effect M s S us q u) k p
      → M.Alike p (D k) (below M S.base (step_effect M s S us q u).updates k)
  step_alike p q k u h m l t =
      put_alike M L swap S.base us z p (loses M S.base us (Steps (suc q)) ++ ms) ms q k u v h l (λ n g. has_join (loses M S.base us (Steps (suc q))) ms n g) t.removed
      (λ a. own (hides (M.outcome v.state)) refl (subst (λ (o : Option (Update M)). AvoidsAll M p (if has_number (hidden_by M S.base us q o ++ ms) (suc q) then record { number = suc q; trail = trail M u } ∷ [] else [])) h a) (t.added l))
    where
      v : Update M
      v = stepped M (D q) u

      ms : List ℕ
      ms = readers (causes_of_step M s.deps (committed M us) (suc q) (D q) u v (drop (suc q) us))

      own : (b : Bool) → hides (M.outcome v.state) ≡ b → AvoidsAll M p (if has_number ((if b then suc q ∷ [] else []) ++ ms) (suc q) then record { number = suc q; trail = trail M u } ∷ [] else [])
          → Avoids M p (if b then [] else M.writes (next_move M u.operation (D q) u.answers u.state)) → M.Alike p (M.apply (D q) (trail M u)) (M.apply (D q) (trail M v))
      own true e a w = lost p q (trail M u) (trail M v) (trail_hidden M v e) (subst (λ b. AvoidsAll M p (if b then record { number = suc q; trail = trail M u } ∷ [] else [])) (here (suc q) ms) a).0
      own false e a w =
          let o = ready_parts M s (committed M us) (suc q) u m in
          let before : trail M u ≡ M.own u.state = trail_open M u o.0.present (ap hides o.0.going) in
          let now : trail M v ≡ M.own u.state ++ M.writes (next_move M u.operation (D q) u.answers u.state) = trail_open M v o.0.present e ∙ L.moved_own u.state (next_move M u.operation (D q) u.answers u.state) in
          subst (λ (y : List M.Write × List M.Write). M.Alike p (M.apply (D q) y.0) (M.apply (D q) y.1)) (λ i. (sym before i, sym now i))
          (alike_grown M L swap p (D q) (M.own u.state) (M.writes (next_move M u.operation (D q) u.answers u.state)) (sound q) w)

  withdraw_alike : (p : ℕ → Bool) (q k : ℕ) (u : Update M) → slice_get us q ≡ Some u → suc q ≤ k → IsUntouched M S.base us (Withdraws (suc q)) (withdraw_effect M s S us q u) k p
      → M.Alike p (D k) (below M S.base (withdraw_effect M s S us q u).updates k)
  withdraw_alike p q k u h l t =
      let ms : List ℕ = readers (causes_of_loss M s.deps (committed M us) (suc q) (D q) u (drop (suc q) us)) in
      put_alike M L swap S.base us z p (suc q ∷ ms) ms q k u (withdrawn_now M u) h l (λ n g. has_join (suc q ∷ []) ms n g) t.removed
      (λ a. lost p q (trail M u) [] refl (subst (λ b. AvoidsAll M p (if b then record { number = suc q; trail = trail M u } ∷ [] else [])) (here (suc q) ms) a).0)

  answers_alike : (p : ℕ → Bool) (q k : ℕ) (u : Update M) (answers inbox : List M.Choice) → slice_get us q ≡ Some u → suc q ≤ k → AvoidsAll M p (members_of M [] 1 (take k us))
      → M.Alike p (D k) (below M S.base (take q us ++ with_answers M u answers inbox ∷ drop (suc q) us) k)
  answers_alike p q k u answers inbox h l t =
      subst (λ vs. M.Alike p (D k) (below M S.base (take q us ++ with_answers M u answers inbox ∷ vs) k)) (restarted_none M (suc (suc q)) (drop (suc q) us))
      (put_alike M L swap S.base us z p [] [] q k u (with_answers M u answers inbox) h l (λ n g. g) t
      (λ a. L.alike_same p (M.apply (D q) (trail M u)) (L.sound_apply (D q) (trail M u) (sound q))))

  -- an update at or below the one that the event acts on
  low_alike : (p : ℕ → Bool) (e : Event M) (x : Effect M) (k : ℕ) → effect M s S us e ≡ Some x → k < acts_on us e → M.Alike p (D k) (below M S.base x.updates k)
  low_alike p e x k h l = subst (λ F. M.Alike p (D k) F) (sym ((local_law M L s S us e x h).below k l)) (L.alike_same p (D k) (sound k))

  high_alike : (p : ℕ → Bool) (e : Event M) (x : Effect M) (k : ℕ) (w : Update M) → slice_get us k ≡ Some w → effect M s S us e ≡ Some x → acts_on us e ≤ k → IsUntouched M S.base us e x k p → M.Alike p (D k) (below M S.base x.updates k)
  high_alike p Admits x k w f h l t = let a : k < length us = slice_get_within us k w f in absurd (omega (arith, l))
  high_alike p (Steps i) x k w f h l t =
      let a = allowed_is us i (may_step M s us) (step_effect M s S us) x h in
      go i x a l t
    where
      go : (i : ℕ) (x : Effect M) → IsAllowed us i (may_step M s us) (step_effect M s S us) x → i ≤ k → IsUntouched M S.base us (Steps i) x k p → M.Alike p (D k) (below M S.base x.updates k)
      go i x a l t =
          let t' : IsUntouched M S.base us (Steps (suc a.place)) (step_effect M s S us a.place a.item) k p =
          subst (λ (y : ℕ × Effect M). IsUntouched M S.base us (Steps y.0) y.1 k p) (λ j. (a.number j, sym a.made j)) t in
          subst (λ (y : Effect M). M.Alike p (D k) (below M S.base y.updates k)) a.made (step_alike p a.place k a.item a.found a.may (omega (arith, l, a.number)) t')
  high_alike p (Delivers i) x k w f h l t =
      let a = allowed_is us i (may_deliver M s us) (deliver_effect M s us) x h in
      let none : AvoidsAll M p (members_of M [] 1 (take k us)) = (subst (λ (y : Effect M). IsUntouched M S.base us (Delivers i) y k p) (sym a.made) t).removed in
      subst (λ (y : Effect M). M.Alike p (D k) (below M S.base y.updates k)) a.made
      (answers_alike p a.place k a.item (a.item.answers ++ take 1 a.item.inbox) (drop 1 a.item.inbox) a.found (omega (arith, l, a.number)) none)
  high_alike p (Answers i c) x k w f h l t =
      let a = allowed_is us i (may_answer M s us c) (answer_effect M s us c) x h in
      let none : AvoidsAll M p (members_of M [] 1 (take k us)) = (subst (λ (y : Effect M). IsUntouched M S.base us (Answers i c) y k p) (sym a.made) t).removed in
      subst (λ (y : Effect M). M.Alike p (D k) (below M S.base y.updates k)) a.made
      (answers_alike p a.place k a.item (take (M.taken a.item.state) a.item.answers ++ c ∷ []) a.item.inbox a.found (omega (arith, l, a.number)) none)
  high_alike p (Withdraws i) x k w f h l t =
      let a = allowed_is us i (may_withdraw M us) (withdraw_effect M s S us) x h in
      let t' : IsUntouched M S.base us (Withdraws (suc a.place)) (withdraw_effect M s S us a.place a.item) k p =
      subst (λ (y : ℕ × Effect M). IsUntouched M S.base us (Withdraws y.0) y.1 k p) (λ j. (a.number j, sym a.made j)) t in
      subst (λ (y : Effect M). M.Alike p (D k) (below M S.base y.updates k)) a.made (withdraw_alike p a.place k a.item a.found (omega (arith, l, a.number)) t')

  stamped_alike : (p : ℕ → Bool) (e : Event M) (x : Effect M) (k : ℕ) (w : Update M) → slice_get us k ≡ Some w → effect M s S us e ≡ Some x → IsUntouched M S.base us e x k p → M.Alike p (D k) (below M S.base x.updates k)
  stamped_alike p e x k w f h t = by (nat_lt k (acts_on us e)) refl
    where
      by : (b : Bool) → nat_lt k (acts_on us e) ≡ b → M.Alike p (D k) (below M S.base x.updates k)
      by true g = low_alike p e x k h (ltb-true _ _ g)
      by false g = high_alike p e x k w f h (ltb-false _ _ g) t

pub stamp_law : (M : Machine) → Laws M → AlikeSwaps M → StampLaw M
stamp_law M L swap s S us e x z f k u g = record {
  alike = λ p t. stamped_alike M L swap s S us z p e x k u g f t;
  value = λ op q own t. L.alike_value op q (below M S.base us k) (below M S.base x.updates k) own (stamped_alike M L swap s S us z (M.mentions q) e x k u g f t);
}
