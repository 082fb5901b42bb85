-- Each abort has a cause that holds, and the causes of an entry are the aborts.
use Rattle.std.proofs.Common.{◌≡◌, ℕ, zero, suc, ◌<◌, ◌≤◌, ◌+◌, ◌-◌, ap, sym, refl, subst, ◌∙◌, List, [], ◌∷◌, ◌++◌, take, drop, length, append-nil, Bool, true, false, not, ◌||◌, arith, Some}
use Rattle.std.specs.Prelude.{if◌then◌else◌, Option, slice_get, nat_lt}
use Rattle.std.specs.List.{AllByRecursion, list_any, flat_map}
use Rattle.std.proofs.lemmas.Bool.{or_from, ltb-true, ltb-false, ne_eqb, both_ways}
use Rattle.std.proofs.lemmas.Option.{same_Some, none-some, slice_get_within}
use Rattle.def_machine.specs.Machine.{Machine, Laws}
use Rattle.def_machine.specs.Updates.{Update, Session, Settings, trail, below, committed}
use Rattle.def_machine.specs.Reads.{is_valid}
use Rattle.def_machine.specs.Cascade.{Cause, Member, readers, conflicts, cascade, has_number, begun_again, restarted}
use Rattle.def_machine.specs.Steps.{stepped}
use Rattle.def_machine.specs.Effects.{Event, Admits, Steps, Delivers, Answers, Withdraws, Effect, is_spent, causes_of_loss, causes_of_writes, causes_of_step, put, withdrawn_now, delivered, answered, step_effect, withdraw_effect, deliver_effect, answer_effect, admitted, admit_effect, may_step, may_deliver, may_answer, may_withdraw, effect}
use Rattle.def_machine.specs.Histories.{empty_log}
use Rattle.def_machine.specs.Runs.{AreRuns}
use Rattle.def_machine.specs.CauseLaw.{trails_without, below_without, members_of, Holds, IsDistinct, stepped_at, lost_by, AreCauses, CauseLaw}
use Rattle.def_machine.proofs.Basics.{length_from, all_from, some_of}
use Rattle.def_machine.proofs.Settling.{run_valid, live_is, conflict_some}
use Rattle.def_machine.proofs.Walks.{AreFirst, conflicts_first, readers_join, here, restarted_none}
use Rattle.def_machine.proofs.Standing.{ready_parts, not_over}
use Rattle.def_machine.proofs.Places.{allowed_is, committed_below, sound_below, runs_above, taken_same, put_here, put_above, dropped_same, take_put}
use Rattle.def_machine.proofs.Events.{after_runs}
use Rattle.def_machine.proofs.Local.{pushed_same}
use Rattle.def_machine.proofs.Carried.{below_more}
use Rattle.def_machine.proofs.Fewer.{AreAbove, writes_above, loss_above}
use Rattle.def_machine.proofs.Causes.{all_join, trails_more, members_more, none_without}
use Rattle.def_machine.proofs.CausesHold.{AllHold, AreValid, conflicts_hold, cascade_holds}
use Rattle.def_machine.proofs.Distinct.{writes_distinct, cascade_distinct}

drop_put : {A : Type 0} (us : List A) (v : A) (vs : List A) (k : ℕ) → k ≤ length us → drop (suc k) (take k us ++ v ∷ vs) ≡ vs
drop_put us v vs zero l = refl
drop_put [] v vs (suc k) l = absurd (omega arith)
drop_put (u ∷ us) v vs (suc k) l = drop_put us v vs k (omega arith)

restarted_at : (M : Machine) (ns : List ℕ) (n i m : ℕ) (us : List (Update M)) (u : Update M) → m ≡ n + i → slice_get us i ≡ Some u → slice_get (restarted M ns n us) i ≡ Some (if has_number ns m then begun_again M m u else u)
restarted_at M ns n i m [] u e h = absurd (none-some u h)
restarted_at M ns n zero m (v ∷ us) u e h = let f : n ≡ m = omega arith in λ i. Some (if has_number ns (f i) then begun_again M (f i) (same_Some v u h i) else same_Some v u h i)
restarted_at M ns n (suc i) m (v ∷ us) u e h = restarted_at M ns (suc n) i m us u (omega (arith, e)) h

module _ (M : Machine) (L : Laws M) (s : Settings) (S : Session M) (us : List (Update M)) (z : M.Sound S.base) (r : AreRuns M S.base 1 us) where
  abbrev D : ℕ → M.Repository
  D k = below M S.base us k

  abbrev c : ℕ
  c = committed M us

  above_is : (k : ℕ) (u : Update M) → slice_get us k ≡ Some u → AreRuns M (M.apply (D k) (trail M u)) (suc (suc k)) (drop (suc k) us)
  above_is k u h = let e : suc (1 + k) ≡ suc (suc k) = omega arith in subst (λ m. AreRuns M (M.apply (D k) (trail M u)) m (drop (suc k) us)) e (runs_above M L S.base 1 k us u r h)

  -- the updates that aren't in conflict have valid reads
  first_valid : (j : ℕ) (ns : List ℕ) (ws : List (Update M)) (fs : List ℕ) (E : M.Repository) (n : ℕ) (vs : List (Update M)) → c < n → AreFirst M s.deps c j fs true E n vs → AreValid M L s.deps c j S.base ns ws fs E n vs
  first_valid j ns ws fs E n [] l a = tt
  first_valid j ns ws fs E n (v ∷ vs) l a = (
    λ o w. all_from (is_valid M v.operation E (M.own v.state)) v.log (sym (live_is M c n v (list_any (λ q. not (is_valid M v.operation E (M.own v.state) q)) v.log) l w) ∙ sym (conflict_some M c j E n v) ∙ sym a.0 ∙ o),
    first_valid j ns ws fs (M.apply E (trail M v)) (suc n) vs (omega (arith, l)) a.1,
  )

  runs_valid : (j : ℕ) (ns : List ℕ) (ws : List (Update M)) (E : M.Repository) (n : ℕ) (vs : List (Update M)) → AreRuns M E n vs → AreValid M L s.deps c j S.base ns ws [] E n vs
  runs_valid j ns ws E n [] q = tt
  runs_valid j ns ws E n (v ∷ vs) q = (λ o w. run_valid M L E n v w q.0, runs_valid j ns ws (M.apply E (trail M v)) (suc n) vs q.1)

  -- after the writes of update k + 1, which becomes v
  writes_hold : (k : ℕ) (u v : Update M) → slice_get us k ≡ Some u → c < suc (suc k)
      → let causes = causes_of_writes M s.deps c (suc k) (M.apply (D k) (trail M v)) (drop (suc k) us) in AllHold M L s.deps c (suc k) S.base (readers causes) (take k us ++ v ∷ drop (suc k) us) causes
  writes_hold k u v h l =
      let upper : List (Update M) = drop (suc k) us in
      let ws : List (Update M) = take k us ++ v ∷ upper in
      let E : M.Repository = M.apply (D k) (trail M v) in
      let first : List (Cause M) = conflicts M c (suc k) E (suc (suc k)) upper in
      let causes : List (Cause M) = causes_of_writes M s.deps c (suc k) E upper in
      let ns : List ℕ = readers causes in
      let long : k ≤ length us = length_from us k u h in
      let same : below M S.base ws (suc k) ≡ E =
      below_more M L S.base ws k v (put_here us v upper k long) ∙ ap (λ xs. M.apply (M.apply S.base (flat_map (trail M) xs)) (trail M v)) (take_put us (v ∷ upper) k k (omega arith) long) in
      let none = none_without M ns 1 (suc k) ws (λ m g. writes_above M L s.deps c (suc k) E upper m (omega (arith, g))) in
      all_join (Holds M s.deps S.base (suc k) ns ws) first (cascade M s.deps c (readers first) E [] (suc (suc k)) upper)
      (subst (λ F. AllHold M L s.deps c (suc k) S.base ns ws (conflicts M c (suc k) F (suc (suc k)) upper)) same
      (conflicts_hold M L s.deps c (suc k) S.base ns ws (suc k) (suc (suc k)) upper refl (omega arith) (drop_put us v upper k long)))
      (cascade_holds M L s.deps c (suc k) S.base ns ws (readers first) (suc k) (suc (suc k)) E E [] upper refl (omega arith) (drop_put us v upper k long)
      (sym same ∙ ap (λ xs. M.apply S.base xs) (sym none.0)) (sym none.1)
      (λ m g. readers_join M first (cascade M s.deps c (readers first) E [] (suc (suc k)) upper) m)
      record { same = λ e. refl; alike = λ p a. L.alike_same p E (L.sound_apply (D k) (trail M v) (sound_below M L S.base us k z)) }
      (first_valid (suc k) ns ws (readers first) E (suc (suc k)) upper l (conflicts_first M s.deps c (suc k) (readers first) E (suc (suc k)) upper (λ m g. refl))))

  -- after update k + 1 lost its trail
  loss_hold : (k : ℕ) (u : Update M) → slice_get us k ≡ Some u
      → let causes = causes_of_loss M s.deps c (suc k) (D k) u (drop (suc k) us) in AllHold M L s.deps c (suc k) S.base (suc k ∷ readers causes) us causes
  loss_hold k u h =
      let upper : List (Update M) = drop (suc k) us in
      let causes : List (Cause M) = causes_of_loss M s.deps c (suc k) (D k) u upper in
      let ns : List ℕ = suc k ∷ readers causes in
      let me : List (Member M) = record { number = suc k; trail = trail M u } ∷ [] in
      let number : suc k ≡ 1 + k = omega arith in
      let mine : has_number ns (suc k) ≡ true = here (suc k) (readers causes) in
      let none = none_without M ns 1 k us (λ m g. or_from _ _ (ne_eqb (suc k) m (λ e. absurd (omega (arith, g)))) (loss_above M L s.deps c (suc k) (D k) u upper m (omega (arith, g)))) in
      let low : D k ≡ below_without M S.base ns us (suc k) =
      ap (λ xs. M.apply S.base xs) (sym none.0 ∙ sym (append-nil (trails_without M ns 1 (take k us))) ∙ (λ i. trails_without M ns 1 (take k us) ++ (if sym mine i then [] else trail M u)) ∙ sym (trails_more M ns 1 k (suc k) us u number h)) in
      let members : me ≡ members_of M ns 1 (take (suc k) us) =
      (λ i. sym none.1 i ++ (if sym mine i then me else [])) ∙ sym (members_more M ns 1 k (suc k) us u number h) in
      cascade_holds M L s.deps c (suc k) S.base ns us [] (suc k) (suc (suc k)) (M.apply (D k) (trail M u)) (D k) me upper refl (omega arith) refl low members
      (λ m g. ap (λ b. b || has_number (readers causes) m) (ne_eqb (suc k) m (λ e. absurd (omega (arith, g)))))
      record { same = λ e. absurd (both_ways true (sym e) refl); alike = λ p a. L.alike_skip p (D k) (D k) (trail M u) a.0 (L.alike_same p (D k) (sound_below M L S.base us k z)) }
      (runs_valid (suc k) ns us (M.apply (D k) (trail M u)) (suc (suc k)) upper (above_is k u h))

  -- ---- the updates after the event

  abbrev IsPut : ℕ → Update M → Update M → List (Cause M) → Type 0
  IsPut k u v causes =
      ((i : ℕ) (w : Update M) → slice_get us i ≡ Some w → has_number (readers causes) (suc i) ≡ true → slice_get (put M us k v causes) i ≡ Some (begun_again M (suc i) w))
      × ((i : ℕ) (w : Update M) → slice_get us i ≡ Some w → has_number (readers causes) (suc i) ≡ false → (suc i ≡ suc k → ⊥) → slice_get (put M us k v causes) i ≡ Some w)
      × ((i : ℕ) (w : Update M) → slice_get us i ≡ Some w → suc i ≡ suc k → (x : Update M) × (slice_get (put M us k v causes) i ≡ Some x) × (x.attempt ≡ w.attempt))

  put_is : (k : ℕ) (u v : Update M) (causes : List (Cause M)) → slice_get us k ≡ Some u → v.attempt ≡ u.attempt → AreAbove M L (suc k) (readers causes) → IsPut k u v causes
  put_is k u v causes h e a = (
    λ i w f g. named (nat_lt k i) refl i w refl f g,
    λ i w f g n. other (nat_lt k i) refl i w refl f g n,
    λ i w f n. let m : i ≡ k = omega (arith, n) in
        let same : u ≡ w = same_Some u w (sym h ∙ ap (λ x. slice_get us x) (sym m) ∙ f) in
        (v, ap (λ x. slice_get (put M us k v causes) x) m ∙ put_here us v (restarted M (readers causes) (suc (suc k)) (drop (suc k) us)) k long, e ∙ ap (λ (x : Update M). x.attempt) same),
  )
    where
      long : k ≤ length us
      long = length_from us k u h

      upper : (i : ℕ) (w : Update M) → k < i → slice_get us i ≡ Some w → slice_get (put M us k v causes) i ≡ Some (if has_number (readers causes) (suc i) then begun_again M (suc i) w else w)
      upper i w l f =
          put_above us v (restarted M (readers causes) (suc (suc k)) (drop (suc k) us)) k (i - suc k) i (omega (arith, l)) long
          ∙ restarted_at M (readers causes) (suc (suc k)) (i - suc k) (suc i) (drop (suc k) us) w (omega (arith, l)) (dropped_same us (suc k) (i - suc k) i (omega (arith, l)) ∙ f)

      named : {i : ℕ} (b : Bool) → nat_lt k i ≡ b → (m : ℕ) (w : Update M) → i ≡ m → slice_get us m ≡ Some w → has_number (readers causes) (suc m) ≡ true → slice_get (put M us k v causes) m ≡ Some (begun_again M (suc m) w)
      named true q m w e f g = upper m w (subst (λ x. k < x) e (ltb-true _ _ q)) f ∙ (λ t. Some (if g t then begun_again M (suc m) w else w))
      named {i} false q m w e f g = let low : i ≤ k = ltb-false _ _ q in absurd (both_ways _ (a (suc m) (omega (arith, low, e))) g)

      other : {i : ℕ} (b : Bool) → nat_lt k i ≡ b → (m : ℕ) (w : Update M) → i ≡ m → slice_get us m ≡ Some w → has_number (readers causes) (suc m) ≡ false → (suc m ≡ suc k → ⊥) → slice_get (put M us k v causes) m ≡ Some w
      other true q m w e f g n = upper m w (subst (λ x. k < x) e (ltb-true _ _ q)) f ∙ (λ t. Some (if g t then begun_again M (suc m) w else w))
      other {i} false q m w e f g n =
          let low : i ≤ k = ltb-false _ _ q in
          let not_k : m ≡ k → ⊥ = λ x. n (ap suc x) in
          taken_same us (v ∷ restarted M (readers causes) (suc (suc k)) (drop (suc k) us)) k m (omega (arith, low, e)) long ∙ f

  stands_above : (j : ℕ) (ns : List ℕ) → AreAbove M L j ns → (i : ℕ) → has_number ns i ≡ true → j < i
  stands_above j ns a i h = by (nat_lt j i) refl
    where
      by : (b : Bool) → nat_lt j i ≡ b → j < i
      by true e = ltb-true _ _ e
      by false e = let low : i ≤ j = ltb-false _ _ e in absurd (both_ways _ (a i (omega (arith, low))) h)

  step_is : (k : ℕ) (u : Update M) → slice_get us k ≡ Some u → may_step M s us k u ≡ true → AreCauses M s S us (Steps (suc k)) (step_effect M s S us k u)
  step_is k u h m = record {
    hold = subst (λ (o : Option (Update M)). AllByRecursion (Holds M s.deps S.base (suc k) (lost_by M S.base us k o ++ readers causes) (stepped_at M S.base us k o)) causes) (sym h) (hold_by (is_spent (M.outcome v.state)));
    once = once_by (is_spent (M.outcome v.state));
    above = stands_above (suc k) (readers causes) (above_by (is_spent (M.outcome v.state)));
    restarts = placed.0;
    others = placed.1;
    own = placed.2;
  }
    where
      v : Update M
      v = stepped M (D k) u

      upper : List (Update M)
      upper = drop (suc k) us

      causes : List (Cause M)
      causes = causes_of_step M s.deps c (suc k) (D k) u v upper

      low : c < suc (suc k)
      low =
          let o = ready_parts M s c (suc k) u m in
          let l : c ≤ k = committed_below M us k u h (not_over M s c (suc k) u o.0) in
          omega (arith, l)

      hold_by : (b : Bool)
          → AllByRecursion (Holds M s.deps S.base (suc k)
          ((if b then suc k ∷ [] else []) ++ readers (if b then causes_of_loss M s.deps c (suc k) (D k) u upper else causes_of_writes M s.deps c (suc k) (M.apply (D k) (trail M v)) upper))
          (if b then us else take k us ++ v ∷ upper)) (if b then causes_of_loss M s.deps c (suc k) (D k) u upper else causes_of_writes M s.deps c (suc k) (M.apply (D k) (trail M v)) upper)
      hold_by true = loss_hold k u h
      hold_by false = writes_hold k u v h low

      once_by : (b : Bool) → IsDistinct (readers (if b then causes_of_loss M s.deps c (suc k) (D k) u upper else causes_of_writes M s.deps c (suc k) (M.apply (D k) (trail M v)) upper))
      once_by true = cascade_distinct M s.deps c (suc k) [] (D k) (record { number = suc k; trail = trail M u } ∷ []) (suc (suc k)) upper
      once_by false = writes_distinct M s.deps c (suc k) (M.apply (D k) (trail M v)) upper

      above_by : (b : Bool) → AreAbove M L (suc k) (readers (if b then causes_of_loss M s.deps c (suc k) (D k) u upper else causes_of_writes M s.deps c (suc k) (M.apply (D k) (trail M v)) upper))
      above_by true = loss_above M L s.deps c (suc k) (D k) u upper
      above_by false = writes_above M L s.deps c (suc k) (M.apply (D k) (trail M v)) upper

      placed : IsPut k u v causes
      placed = put_is k u v causes h refl (above_by (is_spent (M.outcome v.state)))

  withdraw_is : (k : ℕ) (u : Update M) → slice_get us k ≡ Some u → AreCauses M s S us (Withdraws (suc k)) (withdraw_effect M s S us k u)
  withdraw_is k u h =
      let upper : List (Update M) = drop (suc k) us in
      let causes : List (Cause M) = causes_of_loss M s.deps c (suc k) (D k) u upper in
      let placed : IsPut k u (withdrawn_now M u) causes = put_is k u (withdrawn_now M u) causes h refl (loss_above M L s.deps c (suc k) (D k) u upper) in
      record {
        hold = loss_hold k u h;
        once = cascade_distinct M s.deps c (suc k) [] (D k) (record { number = suc k; trail = trail M u } ∷ []) (suc (suc k)) upper;
        above = stands_above (suc k) (readers causes) (loss_above M L s.deps c (suc k) (D k) u upper);
        restarts = placed.0;
        others = placed.1;
        own = placed.2;
      }

  -- no update but the one acted on changes
  alone : (k : ℕ) (u v : Update M) → slice_get us k ≡ Some u → v.attempt ≡ u.attempt
      → ((i : ℕ) (w : Update M) → slice_get us i ≡ Some w → (suc i ≡ suc k → ⊥) → slice_get (take k us ++ v ∷ drop (suc k) us) i ≡ Some w)
      × ((i : ℕ) (w : Update M) → slice_get us i ≡ Some w → suc i ≡ suc k → (x : Update M) × (slice_get (take k us ++ v ∷ drop (suc k) us) i ≡ Some x) × (x.attempt ≡ w.attempt))
  alone k u v h e =
      let placed : IsPut k u v [] = put_is k u v [] h e (λ m l. refl) in
      let same : put M us k v [] ≡ take k us ++ v ∷ drop (suc k) us = ap (λ vs. take k us ++ v ∷ vs) (restarted_none M (suc (suc k)) (drop (suc k) us)) in (
        λ i w f n. ap (λ vs. slice_get vs i) (sym same) ∙ placed.1 i w f refl n,
        λ i w f n. let p = placed.2 i w f n in (p.0, ap (λ vs. slice_get vs i) (sym same) ∙ p.1, p.2),
      )

  pub causes_are : (e : Event M) (x : Effect M) → effect M s S us e ≡ Some x → AreCauses M s S us e x
  causes_are Admits x h =
      let p = some_of (admit_effect M us) (slice_get S.submissions (length us)) x h in
      subst (λ (y : Effect M). AreCauses M s S us Admits y) p.2
      record {
        hold = tt;
        once = tt;
        above = λ i g. absurd (both_ways false refl g);
        restarts = λ k u f g. absurd (both_ways false refl g);
        others = λ k u f g n. pushed_same us (admitted M (suc (length us)) p.0 ∷ []) k (slice_get_within us k u f) ∙ f;
        own = λ k u f n. let l : k < length us = slice_get_within us k u f in absurd (omega (arith, l, n));
      }
  causes_are (Steps i) x h =
      let a = allowed_is us i (may_step M s us) (step_effect M s S us) x h in
      subst (λ (y : Effect M). AreCauses M s S us (Steps i) y) a.made
      (subst (λ n. AreCauses M s S us (Steps n) (step_effect M s S us a.place a.item)) (sym a.number) (step_is a.place a.item a.found a.may))
  causes_are (Delivers i) x h =
      let a = allowed_is us i (may_deliver M s us) (deliver_effect M s us) x h in
      let p = alone a.place a.item (delivered M a.item) a.found refl in
      subst (λ (y : Effect M). AreCauses M s S us (Delivers i) y) a.made
      record {
        hold = tt;
        once = tt;
        above = λ i g. absurd (both_ways false refl g);
        restarts = λ k u f g. absurd (both_ways false refl g);
        others = λ k u f g n. p.0 k u f (λ e. n (e ∙ sym a.number));
        own = λ k u f n. p.1 k u f (n ∙ a.number);
      }
  causes_are (Answers i d) x h =
      let a = allowed_is us i (may_answer M s us d) (answer_effect M s us d) x h in
      let p = alone a.place a.item (answered M a.item d) a.found refl in
      subst (λ (y : Effect M). AreCauses M s S us (Answers i d) y) a.made
      record {
        hold = tt;
        once = tt;
        above = λ i g. absurd (both_ways false refl g);
        restarts = λ k u f g. absurd (both_ways false refl g);
        others = λ k u f g n. p.0 k u f (λ e. n (e ∙ sym a.number));
        own = λ k u f n. p.1 k u f (n ∙ a.number);
      }
  causes_are (Withdraws i) x h =
      let a = allowed_is us i (may_withdraw M us) (withdraw_effect M s S us) x h in
      subst (λ (y : Effect M). AreCauses M s S us (Withdraws i) y) a.made
      (subst (λ n. AreCauses M s S us (Withdraws n) (withdraw_effect M s S us a.place a.item)) (sym a.number) (withdraw_is a.place a.item a.found))

pub cause_law : (M : Machine) → Laws M → CauseLaw M
cause_law M L s S es l e x z h f = causes_are M L s S l.updates z (after_runs M L s S (empty_log M) l es z tt h) e x f
