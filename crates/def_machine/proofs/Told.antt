-- The history tells the trails.
use Rattle.std.proofs.Common.{◌≡◌, ℕ, suc, ◌<◌, ◌≤◌, ◌==◌, ap, sym, refl, subst, ◌∙◌, List, [], ◌∷◌, ◌++◌, append_assoc, append-nil, take, drop, length, Bool, true, false, ◌&&◌, arith, Some}
use Rattle.std.specs.Prelude.{if◌then◌else◌, slice_get, nat_lt}
use Rattle.std.proofs.lemmas.Bool.{and_from, eq-eqb, ne_eqb, both_ways, ltb-true, ltb-false, and_right, eqb-true}
use Rattle.std.proofs.lemmas.Option.{same_Some, none-some, option_and_then_some, slice_get_within}
use Rattle.def_machine.specs.Machine.{Machine, Laws}
use Rattle.def_machine.specs.Updates.{Update, Session, Settings, hides, shown, below, committed, Submission}
use Rattle.def_machine.specs.Cascade.{readers, has_number, restarted, begun_again}
use Rattle.def_machine.specs.Steps.{next_move, stepped, step_writes}
use Rattle.def_machine.specs.Effects.{Event, Admits, Steps, Delivers, Answers, Withdraws, Entry, Effect, causes_of_loss, causes_of_step, withdrawn_now, delivered, answered, step_effect, withdraw_effect, deliver_effect, answer_effect, admitted, admit_effect, may_step, may_deliver, may_answer, may_withdraw, effect}
use Rattle.def_machine.specs.Histories.{Log, empty_log, with_entry, after, causes_in}
use Rattle.def_machine.specs.Runs.{AreRuns}
use Rattle.def_machine.specs.Local.{acts_on}
use Rattle.def_machine.specs.Bounds.{admissions_of}
use Rattle.def_machine.specs.CauseLaw.{AreCauses}
use Rattle.def_machine.specs.Trails.{writes_by, written, IsTold, TrailLaw}
use Rattle.def_machine.proofs.Basics.{if_true, if_false, length_from, some_of, there, last_is, length_more}
use Rattle.def_machine.proofs.Standing.{ready_parts}
use Rattle.def_machine.proofs.Places.{allowed_is, put_here}
use Rattle.def_machine.proofs.Events.{effect_runs}
use Rattle.def_machine.proofs.Legal.{effect_records}
use Rattle.def_machine.proofs.Local.{pushed_same}
use Rattle.def_machine.proofs.Caused.{causes_are}

written_join : (M : Machine) (i a : ℕ) (es : List (Entry M)) (e : Entry M) → written i a (es ++ e ∷ []) ≡ written i a es ++ writes_by i a e
written_join M i a [] e = append-nil (writes_by i a e)
written_join M i a (d ∷ es) e = ap (λ ws. writes_by i a d ++ ws) (written_join M i a es e) ∙ sym (append_assoc (writes_by i a d) (written i a es) (writes_by i a e))

module _ (M : Machine) (L : Laws M) (s : Settings) (S : Session M) where
  record IsWritten (us : List (Update M)) (entries : List (Entry M)) : Type 0 where
    pub now : (k : ℕ) (u : Update M) → slice_get us k ≡ Some u → hides (M.outcome u.state) ≡ false → M.own u.state ≡ written (suc k) u.attempt entries
    pub later : (k a : ℕ) (u : Update M) → slice_get us k ≡ Some u → u.attempt < a → written (suc k) a entries ≡ []
    pub none : (i a : ℕ) → length us < i → written i a entries ≡ []

  -- what the event's own update becomes
  record IsOwn (e : ℕ → List M.Write) (u v : Update M) : Type 0 where
    pub attempt : v.attempt ≡ u.attempt
    pub before : hides (M.outcome v.state) ≡ false → hides (M.outcome u.state) ≡ false
    pub grows : hides (M.outcome v.state) ≡ false → M.own v.state ≡ M.own u.state ++ e u.attempt
    pub later : (a : ℕ) → u.attempt < a → e a ≡ []

  -- an entry shows writes of the event's update alone
  abbrev ShowsAlone : ℕ → Entry M → Type 0
  ShowsAlone j d = (i a : ℕ) → (i ≡ j → ⊥) → writes_by i a d ≡ []

  -- every event but an admission
  kept : (us : List (Update M)) (entries : List (Entry M)) (e : Event M) (x : Effect M) (j : ℕ) → acts_on us e ≡ j → j ≤ length us → AreCauses M s S us e x → length x.updates ≡ length us → ShowsAlone j x.entry
      → ((k : ℕ) (u v : Update M) → suc k ≡ j → slice_get us k ≡ Some u → slice_get x.updates k ≡ Some v → IsOwn (λ a. writes_by (suc k) a x.entry) u v)
      → IsWritten us entries → IsWritten x.updates (entries ++ x.entry ∷ [])
  kept us entries e x j is low c long alone own w = record {
    now = λ k v f g. here k v (there us k (omega (arith, slice_get_within x.updates k v f, long))) f g;
    later = λ k a v f l. after_it k a v (there us k (omega (arith, slice_get_within x.updates k v f, long))) f l;
    none = λ i a l. written_join M i a entries x.entry ∙ (λ t. w.none i a (omega (arith, l, long)) t ++ writes_by i a x.entry) ∙ outside i a (omega (arith, l, long));
  }
    where
      names : ℕ → Bool
      names n = has_number (readers (causes_in x.entry)) n

      not_named : (k : ℕ) → suc k ≡ j → names (suc k) ≡ true → ⊥
      not_named k f g = let up : acts_on us e < suc k = c.above (suc k) g in omega (arith, up, f, is)

      cases : (k : ℕ) → (P : Type 0) → (names (suc k) ≡ true → P) → (names (suc k) ≡ false → (suc k ≡ j → ⊥) → P) → (suc k ≡ j → P) → P
      cases k P f g h = by (names (suc k)) refl (suc k == j) refl
        where
          by : (b : Bool) → names (suc k) ≡ b → (q : Bool) → (suc k == j) ≡ q → P
          by true m q n = f m
          by false m true n = h (eqb-true (suc k) j n)
          by false m false n = g m (λ t. both_ways _ n (eq-eqb (suc k) j t))

      outside : (i a : ℕ) → length us < i → writes_by i a x.entry ≡ []
      outside i a l = cases_at (i == j) refl
        where
          cases_at : (q : Bool) → (i == j) ≡ q → writes_by i a x.entry ≡ []
          cases_at false n = alone i a (λ t. both_ways _ n (eq-eqb i j t))
          cases_at true n = alone i a (λ t. omega (arith, l, low, t))

      same_at : (k : ℕ) (v y : Update M) → slice_get x.updates k ≡ Some v → slice_get x.updates k ≡ Some y → y ≡ v
      same_at k v y f g = same_Some y v (sym g ∙ f)

      here : (k : ℕ) (v : Update M) → (u : Update M) × (slice_get us k ≡ Some u) → slice_get x.updates k ≡ Some v → hides (M.outcome v.state) ≡ false → M.own v.state ≡ written (suc k) v.attempt (entries ++ x.entry ∷ [])
      here k v u f g = cases k (M.own v.state ≡ written (suc k) v.attempt (entries ++ x.entry ∷ []))
          (λ n. let y : begun_again M (suc k) u.0 ≡ v = same_at k v (begun_again M (suc k) u.0) f (c.restarts k u.0 u.1 n) in
          subst (λ (t : Update M). M.own t.state ≡ written (suc k) t.attempt (entries ++ x.entry ∷ [])) y
          (L.begin_own (suc k) (suc u.0.attempt) u.0.operation
          ∙ sym (written_join M (suc k) (suc u.0.attempt) entries x.entry ∙ (λ t. w.later k (suc u.0.attempt) u.0 u.1 (omega arith) t ++ alone (suc k) (suc u.0.attempt) (λ q. not_named k q n) t))))
          (λ n m. let y : u.0 ≡ v = same_at k v u.0 f (c.others k u.0 u.1 n (λ q. m (q ∙ is))) in
          subst (λ (t : Update M). M.own t.state ≡ written (suc k) t.attempt (entries ++ x.entry ∷ [])) y
          (w.now k u.0 u.1 (ap (λ (t : Update M). hides (M.outcome t.state)) y ∙ g)
          ∙ sym (written_join M (suc k) u.0.attempt entries x.entry ∙ ap (λ ws. written (suc k) u.0.attempt entries ++ ws) (alone (suc k) u.0.attempt m) ∙ append-nil (written (suc k) u.0.attempt entries))))
          (λ m. let o = own k u.0 v m u.1 f in
          o.grows g ∙ ap (λ ws. ws ++ writes_by (suc k) u.0.attempt x.entry) (w.now k u.0 u.1 (o.before g)) ∙ sym (written_join M (suc k) u.0.attempt entries x.entry)
          ∙ ap (λ a. written (suc k) a (entries ++ x.entry ∷ [])) (sym o.attempt))

      after_it : (k a : ℕ) (v : Update M) → (u : Update M) × (slice_get us k ≡ Some u) → slice_get x.updates k ≡ Some v → v.attempt < a → written (suc k) a (entries ++ x.entry ∷ []) ≡ []
      after_it k a v u f l = written_join M (suc k) a entries x.entry ∙ cases k (written (suc k) a entries ++ writes_by (suc k) a x.entry ≡ [])
          (λ n. let y : begun_again M (suc k) u.0 ≡ v = same_at k v (begun_again M (suc k) u.0) f (c.restarts k u.0 u.1 n) in
          let up : suc u.0.attempt ≡ v.attempt = ap (λ (t : Update M). t.attempt) y in
          (λ t. w.later k a u.0 u.1 (omega (arith, l, up)) t ++ alone (suc k) a (λ q. not_named k q n) t))
          (λ n m. let y : u.0 ≡ v = same_at k v u.0 f (c.others k u.0 u.1 n (λ q. m (q ∙ is))) in
          let up : u.0.attempt ≡ v.attempt = ap (λ (t : Update M). t.attempt) y in
          (λ t. w.later k a u.0 u.1 (omega (arith, l, up)) t ++ alone (suc k) a m t))
          (λ m. let o = own k u.0 v m u.1 f in
          let up : v.attempt ≡ u.0.attempt = o.attempt in
          (λ t. w.later k a u.0 u.1 (omega (arith, l, up)) t ++ o.later a (omega (arith, l, up)) t))

  -- the step's own entry
  by_itself : (i a : ℕ) (ws : List M.Write) → (if (i == i) && (a == a) then ws else []) ≡ ws
  by_itself i a ws = if_true ((i == i) && (a == a)) ws [] (and_from _ _ (eq-eqb i i refl) (eq-eqb a a refl))

  by_other : (i j a b : ℕ) (ws : List M.Write) → (i ≡ j → ⊥) → (if (j == i) && (b == a) then ws else []) ≡ []
  by_other i j a b ws h = if_false ((j == i) && (b == a)) ws [] (ap (λ q. q && (b == a)) (ne_eqb j i (λ e. h (sym e))))

  by_later : (i a b : ℕ) (ws : List M.Write) → b < a → (if (i == i) && (b == a) then ws else []) ≡ []
  by_later i a b ws h = if_false ((i == i) && (b == a)) ws [] (and_right (i == i) (b == a) (ne_eqb b a (λ e. absurd (omega (arith, h, e)))))

  -- the update at the event's place
  placed : (us : List (Update M)) (k : ℕ) (u v : Update M) (vs : List (Update M)) (m : ℕ) (y z : Update M) → slice_get us k ≡ Some u → suc m ≡ suc k → slice_get us m ≡ Some y → slice_get (take k us ++ v ∷ vs) m ≡ Some z → (u ≡ y) × (v ≡ z)
  placed us k u v vs m y z h e f g =
      let n : m ≡ k = omega (arith, e) in
      (same_Some u y (sym h ∙ ap (λ i. slice_get us i) (sym n) ∙ f), same_Some v z (sym (put_here us v vs k (length_from us k u h)) ∙ ap (λ i. slice_get (take k us ++ v ∷ vs) i) (sym n) ∙ g))

  step_own : (us : List (Update M)) (k m : ℕ) (u : Update M) → slice_get us k ≡ Some u → may_step M s us k u ≡ true → suc m ≡ suc k → IsOwn (λ a. writes_by (suc m) a (step_effect M s S us k u).entry) u (stepped M (below M S.base us k) u)
  step_own us k m u h g e =
      let D : M.Repository = below M S.base us k in
      let v : Update M = stepped M D u in
      let o = ready_parts M s (committed M us) (suc k) u g in
      record {
        attempt = refl;
        before = λ q. ap hides o.0.going;
        grows = λ q. L.moved_own u.state (next_move M u.operation D u.answers u.state)
            ∙ ap (λ ws. M.own u.state ++ ws) (sym (ap (λ i. if (suc k == i) && (u.attempt == u.attempt) then step_writes M D u else []) e ∙ by_itself (suc k) u.attempt (step_writes M D u)
            ∙ if_false (hides (M.outcome v.state)) [] (M.writes (next_move M u.operation D u.answers u.state)) q));
        later = λ a l. ap (λ i. if (suc k == i) && (u.attempt == a) then step_writes M D u else []) e ∙ by_later (suc k) a u.attempt (step_writes M D u) l;
      }

  -- an update whose state stays
  still : (u v : Update M) → v.attempt ≡ u.attempt → v.state ≡ u.state → IsOwn (λ a. []) u v
  still u v e f = record {
    attempt = e;
    before = λ q. ap (λ P. hides (M.outcome P)) (sym f) ∙ q;
    grows = λ q. ap M.own f ∙ sym (append-nil (M.own u.state));
    later = λ a l. refl;
  }

  module _ (z : M.Sound S.base) (us : List (Update M)) (r : AreRuns M S.base 1 us) (entries : List (Entry M)) (w : IsWritten us entries) where
    admit_told : (x : Submission M) → IsWritten (us ++ admitted M (suc (length us)) x ∷ []) (entries ++ (admit_effect M us x).entry ∷ [])
    admit_told x = record {
      now = λ k u f g. now_by (nat_lt k (length us)) refl k u refl f g;
      later = λ k a u f l. later_by (nat_lt k (length us)) refl k a u refl f l;
      none = λ i a l. written_join M i a entries d ∙ append-nil (written i a entries) ∙ w.none i a (omega (arith, l, length_more us new));
    }
      where
        new : Update M
        new = admitted M (suc (length us)) x

        d : Entry M
        d = (admit_effect M us x).entry

        told : (i a : ℕ) → written i a (entries ++ d ∷ []) ≡ written i a entries
        told i a = written_join M i a entries d ∙ append-nil (written i a entries)

        old : (k : ℕ) (u : Update M) → k < length us → slice_get (us ++ new ∷ []) k ≡ Some u → slice_get us k ≡ Some u
        old k u l f = sym (pushed_same us (new ∷ []) k l) ∙ f

        fresh : (k : ℕ) (u : Update M) → length us ≤ k → slice_get (us ++ new ∷ []) k ≡ Some u → (k ≡ length us) × (new ≡ u)
        fresh k u l f =
            let e : k ≡ length us = omega (arith, l, slice_get_within (us ++ new ∷ []) k u f, length_more us new) in
            (e, same_Some new u (sym (last_is us new) ∙ ap (λ n. slice_get (us ++ new ∷ []) n) (sym e) ∙ f))

        now_by : {n : ℕ} (b : Bool) → nat_lt n (length us) ≡ b → (k : ℕ) (u : Update M) → n ≡ k → slice_get (us ++ new ∷ []) k ≡ Some u → hides (M.outcome u.state) ≡ false → M.own u.state ≡ written (suc k) u.attempt (entries ++ d ∷ [])
        now_by {n} true e k u q f g = let l : n < length us = ltb-true _ _ e in w.now k u (old k u (omega (arith, l, q)) f) g ∙ sym (told (suc k) u.attempt)
        now_by {n} false e k u q f g =
            let l : length us ≤ n = ltb-false _ _ e in
            let p = fresh k u (omega (arith, l, q)) f in
            subst (λ (t : Update M). M.own t.state ≡ written (suc k) t.attempt (entries ++ d ∷ [])) p.1
            (L.begin_own (suc (length us)) 0 x.operation ∙ sym (told (suc k) 0 ∙ w.none (suc k) 0 (omega (arith, l, q))))

        later_by : {n : ℕ} (b : Bool) → nat_lt n (length us) ≡ b → (k a : ℕ) (u : Update M) → n ≡ k → slice_get (us ++ new ∷ []) k ≡ Some u → u.attempt < a → written (suc k) a (entries ++ d ∷ []) ≡ []
        later_by {n} true e k a u q f g = let l : n < length us = ltb-true _ _ e in told (suc k) a ∙ w.later k a u (old k u (omega (arith, l, q)) f) g
        later_by {n} false e k a u q f g = let l : length us ≤ n = ltb-false _ _ e in told (suc k) a ∙ w.none (suc k) a (omega (arith, l, q))

    -- any other event at the update at place k, which becomes v
    event_told : (k : ℕ) (u v : Update M) (vs : List (Update M)) (e : Event M) (x : Effect M) → slice_get us k ≡ Some u → x.updates ≡ take k us ++ v ∷ vs → acts_on us e ≡ suc k → admissions_of x.entry ≡ 0 → effect M s S us e ≡ Some x
        → ShowsAlone (suc k) x.entry → ((m : ℕ) → suc m ≡ suc k → IsOwn (λ a. writes_by (suc m) a x.entry) u v) → IsWritten x.updates (entries ++ x.entry ∷ [])
    event_told k u v vs e x h p is n f alone own =
        kept us entries e x (suc k) is (slice_get_within us k u h) (causes_are M L s S us z r e x f) (let long = (effect_records M L s S us e x f).1 in omega (arith, long, n)) alone
        (λ m y t q g i. let both = placed us k u v vs m y t h q g (ap (λ xs. slice_get xs m) (sym p) ∙ i) in
        subst (λ (o : Update M × Update M). IsOwn (λ a. writes_by (suc m) a x.entry) o.0 o.1) (λ j. (both.0 j, both.1 j)) (own m q)) w

    effect_told : (e : Event M) (x : Effect M) → effect M s S us e ≡ Some x → IsWritten x.updates (entries ++ x.entry ∷ [])
    effect_told Admits x h =
        let p = some_of (admit_effect M us) (slice_get S.submissions (length us)) x h in
        subst (λ (y : Effect M). IsWritten y.updates (entries ++ y.entry ∷ [])) p.2 (admit_told p.0)
    effect_told (Steps i) x h =
        let a = allowed_is us i (may_step M s us) (step_effect M s S us) x h in
        let D : M.Repository = below M S.base us a.place in
        let v : Update M = stepped M D a.item in
        subst (λ (y : Effect M). IsWritten y.updates (entries ++ y.entry ∷ [])) a.made
        (event_told a.place a.item v (restarted M (readers (causes_of_step M s.deps (committed M us) (suc a.place) D a.item v (drop (suc a.place) us))) (suc (suc a.place)) (drop (suc a.place) us)) (Steps i) (step_effect M s S us a.place a.item) a.found refl a.number refl (h ∙ ap Some (sym a.made))
        (λ n b f. by_other n (suc a.place) b a.item.attempt (step_writes M D a.item) f) (λ m q. step_own us a.place m a.item a.found a.may q))
    effect_told (Delivers i) x h =
        let a = allowed_is us i (may_deliver M s us) (deliver_effect M s us) x h in
        subst (λ (y : Effect M). IsWritten y.updates (entries ++ y.entry ∷ [])) a.made
        (event_told a.place a.item (delivered M a.item) (drop (suc a.place) us) (Delivers i) (deliver_effect M s us a.place a.item) a.found refl a.number refl (h ∙ ap Some (sym a.made))
        (λ n b f. refl) (λ m q. still a.item (delivered M a.item) refl refl))
    effect_told (Answers i c) x h =
        let a = allowed_is us i (may_answer M s us c) (answer_effect M s us c) x h in
        subst (λ (y : Effect M). IsWritten y.updates (entries ++ y.entry ∷ [])) a.made
        (event_told a.place a.item (answered M a.item c) (drop (suc a.place) us) (Answers i c) (answer_effect M s us c a.place a.item) a.found refl a.number refl (h ∙ ap Some (sym a.made))
        (λ n b f. refl) (λ m q. still a.item (answered M a.item c) refl refl))
    effect_told (Withdraws i) x h =
        let a = allowed_is us i (may_withdraw M us) (withdraw_effect M s S us) x h in
        subst (λ (y : Effect M). IsWritten y.updates (entries ++ y.entry ∷ [])) a.made
        (event_told a.place a.item (withdrawn_now M a.item) (restarted M (readers (causes_of_loss M s.deps (committed M us) (suc a.place) (below M S.base us a.place) a.item (drop (suc a.place) us))) (suc (suc a.place)) (drop (suc a.place) us)) (Withdraws i) (withdraw_effect M s S us a.place a.item) a.found refl a.number refl (h ∙ ap Some (sym a.made))
        (λ n b f. refl) (λ m q. still a.item (withdrawn_now M a.item) refl refl))

  after_told : (l : Log M) (es : List (Event M)) (m : Log M) → M.Sound S.base → AreRuns M S.base 1 l.updates → IsWritten l.updates l.entries → after M s S l es ≡ Some m → IsWritten m.updates m.entries
  after_told l [] m z r w h = subst (λ (x : Log M). IsWritten x.updates x.entries) (same_Some _ _ h) w
  after_told l (e ∷ es) m z r w h =
      option_and_then_some (λ x. after M s S (with_entry M l.entries x) es) (effect M s S l.updates e) m h
      (λ x f g. after_told (with_entry M l.entries x) es m z (effect_runs M L s S l.updates e x z r f) (effect_told z l.updates r l.entries w e x f) g)

  pub told_after : (es : List (Event M)) (l : Log M) → M.Sound S.base → after M s S (empty_log M) es ≡ Some l → IsTold M l
  told_after es l z h =
      let w = after_told (empty_log M) es l z tt record { now = λ k u f g. absurd (none-some u f); later = λ k a u f g. absurd (none-some u f); none = λ i a f. refl } h in
      record {
        own = w.now;
        trail = λ k u f g q. if_false u.withdrawn [] (shown M u.state) q ∙ if_false (hides (M.outcome u.state)) [] (M.own u.state) g ∙ w.now k u f g;
      }

pub trail_law : (M : Machine) → Laws M → TrailLaw M
trail_law M L s S es l z h = told_after M L s S es l z h
