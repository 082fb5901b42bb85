-- The entries of a history tell the trails.
use Rattle.std.proofs.Common.{◌≡◌, ℕ, suc, ◌<◌, ◌≤◌, ◌==◌, ap, sym, refl, subst, ◌∙◌, List, [], ◌∷◌, ◌++◌, append-nil, take, drop, length, map, Bool, true, false, ◌||◌, arith, Some}
use Rattle.std.specs.Prelude.{if◌then◌else◌, slice_get, nat_lt}
use Rattle.std.proofs.lemmas.Bool.{eq-eqb, ne_eqb, both_ways, ltb-true, ltb-false, eqb-true, or_from, or_left, or_right}
use Rattle.std.proofs.lemmas.List.{map_push}
use Rattle.std.proofs.lemmas.Option.{same_Some, none-some, option_and_then_some, slice_get_within}
use Rattle.def_machine.specs.Machine.{Machine, Laws}
use Rattle.def_machine.specs.Updates.{Update, Session, Settings, Submission, hides, trail, below, committed}
use Rattle.def_machine.specs.Standings.{is_held, lack}
use Rattle.def_machine.specs.Cascade.{readers, has_number, begun_again}
use Rattle.def_machine.specs.Steps.{next_move, stepped, step_writes}
use Rattle.def_machine.specs.Effects.{Event, Admits, Steps, Delivers, Answers, Withdraws, Effect, causes_of_loss, causes_of_step, withdrawn_now, delivered, answered, step_effect, withdraw_effect, deliver_effect, answer_effect, admitted, admit_effect, may_step, may_deliver, may_answer, may_withdraw, effect}
use Rattle.def_machine.specs.Histories.{Log, empty_log, with_entry, after, causes_in, IsLegal}
use Rattle.def_machine.specs.Runs.{AreRuns}
use Rattle.def_machine.specs.Local.{acts_on}
use Rattle.def_machine.specs.Bounds.{admissions_of}
use Rattle.def_machine.specs.CauseLaw.{AreCauses}
use Rattle.def_machine.proofs.Basics.{if_true, if_false, length_from, some_of, there, last_is, length_more}
use Rattle.def_machine.proofs.Standing.{ready_parts}
use Rattle.def_machine.proofs.Places.{allowed_is, put_here}
use Rattle.def_machine.proofs.Events.{effect_runs}
use Rattle.def_machine.proofs.Legal.{effect_records}
use Rattle.def_machine.proofs.Local.{pushed_same}
use Rattle.def_machine.proofs.Caused.{causes_are}
use Rattle.def_chase.specs.Mappings.{Rule}
use Rattle.def_chase.specs.Repository.{Change, IsRepository}
use Rattle.def_steps.specs.Chase.{caused, caused_chase}
use Rattle.def_steps.proofs.ChaseLaws.{chase_laws}
use Rattle.def_history.specs.PlainEntries.{PlainEntry, plain_entry}
use Rattle.def_history.specs.Cores.{session_over, entries_over, updates_after}
use Rattle.work_stale.specs.Shown.{restarted_in, lost_in, taken_in, shown_by, shown_after, trail_by}
use Rattle.work_stale.specs.Laws.{EntriesTellTheTrails}
use Rattle.work_stale.proofs.Showing.{has_join, trail_more, hidden_is, restarted_plain, plain_kept}

-- what is shown is nothing where all that could be is
none_shown : {A : Type 0} (a b : Bool) (ws : List A) → ws ≡ [] → (if a then [] else if b then [] else ws) ≡ []
none_shown true b ws e = refl
none_shown false true ws e = refl
none_shown false false ws e = e

none_added : {A : Type 0} (a : Bool) (ws vs : List A) → ws ≡ [] → vs ≡ [] → (if a then [] else ws ++ vs) ≡ []
none_added true ws vs e f = refl
none_added false ws vs e f = λ i. e i ++ f i

module _ (ms : List Rule) (B : ℕ) (some : 1 ≤ B) (s : Settings) (S : Session (caused_chase ms B)) (sound : IsRepository S.base) where
  abbrev M : Machine
  M = caused_chase ms B

  L : Laws (caused_chase ms B)
  L = chase_laws caused ms B some

  pub record Tells (us : List (Update M)) (H : List PlainEntry) : Type 0 where
    pub now : (k : ℕ) (u : Update M) → slice_get us k ≡ Some u → trail M u ≡ trail_by (suc k) H
    pub none : (i : ℕ) → length us < i → trail_by i H ≡ []

  -- what the entry of an event at update j says: it shows writes of j alone and takes those of j alone away beside the causes
  record IsOf (j : ℕ) (us vs : List (Update M)) (d : PlainEntry) : Type 0 where
    pub shows : (i : ℕ) → (i ≡ j → ⊥) → shown_by i d ≡ []
    pub spares : (i : ℕ) → (i ≡ j → ⊥) → has_number (lost_in d) i ≡ false
    pub own : (k : ℕ) (u v : Update M) → suc k ≡ j → slice_get us k ≡ Some u → slice_get vs k ≡ Some v → has_number (restarted_in d) (suc k) ≡ false
        → trail M v ≡ shown_after (suc k) (trail M u) d

  -- every event but an admission
  kept : (us : List (Update M)) (H : List PlainEntry) (e : Event M) (x : Effect M) (j : ℕ) (d : PlainEntry) → acts_on us e ≡ j → j ≤ length us → AreCauses M s S us e x → length x.updates ≡ length us
      → readers (causes_in x.entry) ≡ restarted_in d → IsOf j us x.updates d → Tells us H → Tells x.updates (H ++ d ∷ [])
  kept us H e x j d is low c long same o w = record {
    now = λ k v f. trail_of k v f (there us k (omega (arith, slice_get_within x.updates k v f, long)));
    none = λ i l. let far : i ≡ j → ⊥ = (λ t. omega (arith, l, long, low, t)) in trail_more i H d ∙ none_added (has_number (taken_in d) i) (trail_by i H) (shown_by i d) (w.none i (omega (arith, l, long))) (o.shows i far);
  }
    where
      names : ℕ → Bool
      names n = has_number (restarted_in d) n

      as_causes : (n : ℕ) → has_number (readers (causes_in x.entry)) n ≡ names n
      as_causes n = ap (λ ns. has_number ns n) same

      not_named : (k : ℕ) → suc k ≡ j → names (suc k) ≡ false
      not_named k f = by (names (suc k)) refl
        where
          by : (b : Bool) → names (suc k) ≡ b → names (suc k) ≡ false
          by false g = g
          by true g = let up : acts_on us e < suc k = c.above (suc k) (as_causes (suc k) ∙ g) in absurd (omega (arith, up, f, is))

      same_at : (k : ℕ) (v y : Update M) → slice_get x.updates k ≡ Some v → slice_get x.updates k ≡ Some y → y ≡ v
      same_at k v y f g = same_Some y v (sym g ∙ f)

      trail_of : (k : ℕ) (v : Update M) → slice_get x.updates k ≡ Some v → (u : Update M) × (slice_get us k ≡ Some u) → trail M v ≡ trail_by (suc k) (H ++ d ∷ [])
      trail_of k v f u = by (names (suc k)) refl (suc k == j) refl ∙ sym (trail_more (suc k) H d)
        where
          by : (b : Bool) → names (suc k) ≡ b → (q : Bool) → (suc k == j) ≡ q → trail M v ≡ shown_after (suc k) (trail_by (suc k) H) d
          by true m q n =
              let y : begun_again M (suc k) u.0 ≡ v = same_at k v (begun_again M (suc k) u.0) f (c.restarts k u.0 u.1 (as_causes (suc k) ∙ m)) in
              ap (trail M) (sym y)
              ∙ none_shown u.0.withdrawn (hides (M.outcome (M.begin (suc k) (suc u.0.attempt) u.0.operation))) (M.own (M.begin (suc k) (suc u.0.attempt) u.0.operation)) (L.begin_own (suc k) (suc u.0.attempt) u.0.operation)
              ∙ sym (if_true (has_number (taken_in d) (suc k)) [] (trail_by (suc k) H ++ shown_by (suc k) d) (has_join (lost_in d) (restarted_in d) (suc k) ∙ or_right (has_number (lost_in d) (suc k)) (names (suc k)) m))
          by false m true n =
              o.own k u.0 v (eqb-true (suc k) j n) u.1 f m ∙ ap (λ ws. shown_after (suc k) ws d) (w.now k u.0 u.1)
          by false m false n =
              let far : suc k ≡ j → ⊥ = (λ t. both_ways _ n (eq-eqb (suc k) j t)) in
              let y : u.0 ≡ v = same_at k v u.0 f (c.others k u.0 u.1 (as_causes (suc k) ∙ m) (λ q. far (q ∙ is))) in
              ap (trail M) (sym y) ∙ w.now k u.0 u.1
              ∙ sym (if_false (has_number (taken_in d) (suc k)) [] (trail_by (suc k) H ++ shown_by (suc k) d) (has_join (lost_in d) (restarted_in d) (suc k) ∙ or_from (has_number (lost_in d) (suc k)) (names (suc k)) (o.spares (suc k) far) m)
              ∙ ap (λ ws. trail_by (suc k) H ++ ws) (o.shows (suc k) far) ∙ append-nil (trail_by (suc k) H))

  -- the update at the event's place
  placed : (us : List (Update M)) (k : ℕ) (u v : Update M) (vs : List (Update M)) (m : ℕ) (y z : Update M) → slice_get us k ≡ Some u → suc m ≡ suc k → slice_get us m ≡ Some y → slice_get (take k us ++ v ∷ vs) m ≡ Some z → (u ≡ y) × (v ≡ z)
  placed us k u v vs m y z h e f g =
      let n : m ≡ k = omega (arith, e) in
      (same_Some u y (sym h ∙ ap (λ i. slice_get us i) (sym n) ∙ f), same_Some v z (sym (put_here us v vs k (length_from us k u h)) ∙ ap (λ i. slice_get (take k us ++ v ∷ vs) i) (sym n) ∙ g))

  -- what the entry of an event at the update at place k says, where that becomes v
  own_at : (us : List (Update M)) (k : ℕ) (u v : Update M) (vs : List (Update M)) (d : PlainEntry) → slice_get us k ≡ Some u
      → (has_number (restarted_in d) (suc k) ≡ false → trail M v ≡ shown_after (suc k) (trail M u) d)
      → (m : ℕ) (y z : Update M) → suc m ≡ suc k → slice_get us m ≡ Some y → slice_get (take k us ++ v ∷ vs) m ≡ Some z → has_number (restarted_in d) (suc m) ≡ false
      → trail M z ≡ shown_after (suc m) (trail M y) d
  own_at us k u v vs d h own m y z e f g n =
      let both = placed us k u v vs m y z h e f g in
      ap (trail M) (sym both.1) ∙ own (ap (λ i. has_number (restarted_in d) i) (sym e) ∙ n) ∙ (λ i. shown_after (sym e i) (trail M (both.0 i)) d)

  by_other : (i j : ℕ) (ws : List Change) → (i ≡ j → ⊥) → (if j == i then ws else []) ≡ []
  by_other i j ws h = if_false (j == i) ws [] (ne_eqb j i (λ e. h (sym e)))

  spared_by : (i j : ℕ) → (i ≡ j → ⊥) → has_number (j ∷ []) i ≡ false
  spared_by i j h = or_from (j == i) false (ne_eqb j i (λ e. h (sym e))) refl

  spared_if : (b : Bool) (i j : ℕ) → (i ≡ j → ⊥) → has_number (if b then j ∷ [] else []) i ≡ false
  spared_if true i j h = spared_by i j h
  spared_if false i j h = refl

  has_itself : (j : ℕ) → has_number (j ∷ []) j ≡ true
  has_itself j = or_left (j == j) false (eq-eqb j j refl)

  module _ (us : List (Update M)) (r : AreRuns M S.base 1 us) (H : List PlainEntry) (w : Tells us H) where
    admit_tells : (x : Submission M) → Tells (us ++ admitted M (suc (length us)) x ∷ []) (H ++ plain_entry ms B (admit_effect M us x).entry ∷ [])
    admit_tells x = record {
      now = λ k u f. now_by (nat_lt k (length us)) refl k u refl f;
      none = λ i l. told i ∙ w.none i (omega (arith, l, length_more us new));
    }
      where
        new : Update M
        new = admitted M (suc (length us)) x

        d : PlainEntry
        d = plain_entry ms B (admit_effect M us x).entry

        told : (i : ℕ) → trail_by i (H ++ d ∷ []) ≡ trail_by i H
        told i = trail_more i H d ∙ append-nil (trail_by i H)

        now_by : {n : ℕ} (b : Bool) → nat_lt n (length us) ≡ b → (k : ℕ) (u : Update M) → n ≡ k → slice_get (us ++ new ∷ []) k ≡ Some u → trail M u ≡ trail_by (suc k) (H ++ d ∷ [])
        now_by {n} true e k u q f =
            let l : k < length us = omega (arith, ltb-true _ _ e, q) in
            w.now k u (sym (pushed_same us (new ∷ []) k l) ∙ f) ∙ sym (told (suc k))
        now_by {n} false e k u q f =
            let l : length us ≤ n = ltb-false _ _ e in
            let is : k ≡ length us = omega (arith, l, q, slice_get_within (us ++ new ∷ []) k u f, length_more us new) in
            let y : new ≡ u = same_Some new u (sym (last_is us new) ∙ ap (λ n. slice_get (us ++ new ∷ []) n) (sym is) ∙ f) in
            ap (trail M) (sym y) ∙ none_shown false (hides (M.outcome (M.begin (suc (length us)) 0 x.operation))) (M.own (M.begin (suc (length us)) 0 x.operation)) (L.begin_own (suc (length us)) 0 x.operation)
            ∙ sym (told (suc k) ∙ w.none (suc k) (omega (arith, l, q)))

    -- any other event at the update at place k, which becomes v
    event_tells : (k : ℕ) (u v : Update M) (vs : List (Update M)) (e : Event M) (x : Effect M) → slice_get us k ≡ Some u → x.updates ≡ take k us ++ v ∷ vs → acts_on us e ≡ suc k → admissions_of x.entry ≡ 0 → effect M s S us e ≡ Some x
        → IsOf (suc k) us (take k us ++ v ∷ vs) (plain_entry ms B x.entry) → Tells x.updates (H ++ plain_entry ms B x.entry ∷ [])
    event_tells k u v vs e x h p is n f o =
        kept us H e x (suc k) (plain_entry ms B x.entry) is (slice_get_within us k u h) (causes_are M L s S us sound r e x f) (let long = (effect_records M L s S us e x f).1 in omega (arith, long, n)) (restarted_plain ms B x.entry)
        (subst (λ (ys : List (Update M)). IsOf (suc k) us ys (plain_entry ms B x.entry)) (sym p) o) w

    -- the trail after a step
    step_trail : (k : ℕ) (u : Update M) → may_step M s us k u ≡ true
        → trail M (stepped M (below M S.base us k) u) ≡ (if hides (M.outcome (stepped M (below M S.base us k) u).state) then [] else trail M u ++ step_writes M (below M S.base us k) u)
    step_trail k u g =
        let D : M.Repository = below M S.base us k in
        let o = ready_parts M s (committed M us) (suc k) u g in
        if_false u.withdrawn [] (if hides (M.outcome (stepped M D u).state) then [] else M.own (stepped M D u).state) o.0.present
        ∙ by (hides (M.outcome (stepped M D u).state)) (M.own (stepped M D u).state) (M.own u.state) (trail M u) (M.writes (next_move M u.operation D u.answers u.state)) (L.moved_own u.state (next_move M u.operation D u.answers u.state))
        (sym (if_false u.withdrawn [] (if hides (M.outcome u.state) then [] else M.own u.state) o.0.present ∙ if_false (hides (M.outcome u.state)) [] (M.own u.state) (ap hides o.0.going)))
      where
        by : (b : Bool) (new old seen more : List Change) → new ≡ old ++ more → old ≡ seen → (if b then [] else new) ≡ (if b then [] else seen ++ (if b then [] else more))
        by true new old seen more e f = refl
        by false new old seen more e f = e ∙ ap (λ ws. ws ++ more) f

    step_tells : (k : ℕ) (u : Update M) → slice_get us k ≡ Some u → may_step M s us k u ≡ true
        → IsOf (suc k) us (step_effect M s S us k u).updates (plain_entry ms B (step_effect M s S us k u).entry)
    step_tells k u h g = record {
      shows = λ i n. by_other i (suc k) (step_writes M (below M S.base us k) u) n;
      spares = λ i n. spared_if _ i (suc k) n;
      own = own_at us k u v _ (plain_entry ms B (step_effect M s S us k u).entry) h (λ n. step_trail k u g ∙ sym (made n));
    }
      where
        D : M.Repository
        D = below M S.base us k

        v : Update M
        v = stepped M D u

        hidden : Bool
        hidden = hides (M.outcome v.state)

        d : PlainEntry
        d = plain_entry ms B (step_effect M s S us k u).entry

        c : ℕ
        c = committed M (step_effect M s S us k u).updates

        lost_is : lost_in d ≡ (if hidden then suc k ∷ [] else [])
        lost_is =
            ap (λ b. if b then suc k ∷ [] else [])
            (hidden_is v.withdrawn (M.outcome v.state) (is_held M s c (suc k) v) (suc c) (lack M v.answers v.state) (ready_parts M s (committed M us) (suc k) u g).0.present)

        taken_is : has_number (restarted_in d) (suc k) ≡ false → has_number (taken_in d) (suc k) ≡ hidden
        taken_is n = has_join (lost_in d) (restarted_in d) (suc k) ∙ (λ i. has_number (lost_is i) (suc k) || n i) ∙ by hidden
          where
            by : (b : Bool) → (has_number (if b then suc k ∷ [] else []) (suc k) || false) ≡ b
            by true = or_left (has_number (suc k ∷ []) (suc k)) false (has_itself (suc k))
            by false = refl

        made : has_number (restarted_in d) (suc k) ≡ false → shown_after (suc k) (trail M u) d ≡ (if hidden then [] else trail M u ++ step_writes M D u)
        made n = λ i. if taken_is n i then [] else trail M u ++ if_true (suc k == suc k) (step_writes M D u) [] (eq-eqb (suc k) (suc k) refl) i

    -- an update whose trail stays
    still : (u v : Update M) → v.withdrawn ≡ u.withdrawn → v.state ≡ u.state → trail M v ≡ trail M u ++ []
    still u v e f = (λ i. if e i then [] else if hides (M.outcome (f i)) then [] else M.own (f i)) ∙ sym (append-nil (trail M u))

    withdraw_tells : (k : ℕ) (u : Update M) → slice_get us k ≡ Some u → IsOf (suc k) us (withdraw_effect M s S us k u).updates (plain_entry ms B (withdraw_effect M s S us k u).entry)
    withdraw_tells k u h = record {
      shows = λ i n. refl;
      spares = λ i n. spared_by i (suc k) n;
      own = own_at us k u (withdrawn_now M u) _ d h
          (λ n. sym (if_true (has_number (taken_in d) (suc k)) [] (trail M u ++ []) (has_join (lost_in d) (restarted_in d) (suc k) ∙ or_left (has_number (lost_in d) (suc k)) (has_number (restarted_in d) (suc k)) (has_itself (suc k)))));
    }
      where
        d : PlainEntry
        d = plain_entry ms B (withdraw_effect M s S us k u).entry

    effect_tells : (e : Event M) (x : Effect M) → effect M s S us e ≡ Some x → Tells x.updates (H ++ plain_entry ms B x.entry ∷ [])
    effect_tells Admits x h =
        let p = some_of (admit_effect M us) (slice_get S.submissions (length us)) x h in
        subst (λ (y : Effect M). Tells y.updates (H ++ plain_entry ms B y.entry ∷ [])) p.2 (admit_tells p.0)
    effect_tells (Steps i) x h =
        let a = allowed_is us i (may_step M s us) (step_effect M s S us) x h in
        subst (λ (y : Effect M). Tells y.updates (H ++ plain_entry ms B y.entry ∷ [])) a.made
        (event_tells a.place a.item (stepped M (below M S.base us a.place) a.item) _ (Steps i) (step_effect M s S us a.place a.item) a.found refl a.number refl (h ∙ ap Some (sym a.made)) (step_tells a.place a.item a.found a.may))
    effect_tells (Delivers i) x h =
        let a = allowed_is us i (may_deliver M s us) (deliver_effect M s us) x h in
        subst (λ (y : Effect M). Tells y.updates (H ++ plain_entry ms B y.entry ∷ [])) a.made
        (event_tells a.place a.item (delivered M a.item) (drop (suc a.place) us) (Delivers i) (deliver_effect M s us a.place a.item) a.found refl a.number refl (h ∙ ap Some (sym a.made))
        record { shows = λ j n. refl; spares = λ j n. refl; own = own_at us a.place a.item (delivered M a.item) (drop (suc a.place) us) (plain_entry ms B (deliver_effect M s us a.place a.item).entry) a.found (λ n. still a.item (delivered M a.item) refl refl) })
    effect_tells (Answers i c) x h =
        let a = allowed_is us i (may_answer M s us c) (answer_effect M s us c) x h in
        subst (λ (y : Effect M). Tells y.updates (H ++ plain_entry ms B y.entry ∷ [])) a.made
        (event_tells a.place a.item (answered M a.item c) (drop (suc a.place) us) (Answers i c) (answer_effect M s us c a.place a.item) a.found refl a.number refl (h ∙ ap Some (sym a.made))
        record { shows = λ j n. refl; spares = λ j n. refl; own = own_at us a.place a.item (answered M a.item c) (drop (suc a.place) us) (plain_entry ms B (answer_effect M s us c a.place a.item).entry) a.found (λ n. still a.item (answered M a.item c) refl refl) })
    effect_tells (Withdraws i) x h =
        let a = allowed_is us i (may_withdraw M us) (withdraw_effect M s S us) x h in
        subst (λ (y : Effect M). Tells y.updates (H ++ plain_entry ms B y.entry ∷ [])) a.made
        (event_tells a.place a.item (withdrawn_now M a.item) _ (Withdraws i) (withdraw_effect M s S us a.place a.item) a.found refl a.number refl (h ∙ ap Some (sym a.made)) (withdraw_tells a.place a.item a.found))

  after_tells : (l : Log M) (es : List (Event M)) (m : Log M) → AreRuns M S.base 1 l.updates → Tells l.updates (map (plain_entry ms B) l.entries) → after M s S l es ≡ Some m → Tells m.updates (map (plain_entry ms B) m.entries)
  after_tells l [] m r w h = subst (λ (x : Log M). Tells x.updates (map (plain_entry ms B) x.entries)) (same_Some _ _ h) w
  after_tells l (e ∷ es) m r w h =
      option_and_then_some (λ x. after M s S (with_entry M l.entries x) es) (effect M s S l.updates e) m h
      (λ x f g. after_tells (with_entry M l.entries x) es m (effect_runs M L s S l.updates e x sound r f)
      (subst (λ (H : List PlainEntry). Tells x.updates H) (sym (map_push (plain_entry ms B) l.entries x.entry)) (effect_tells l.updates r (map (plain_entry ms B) l.entries) w e x f)) g)

  pub legal_tells : (H : List (Rattle.def_machine.specs.Effects.Entry M)) (us : List (Update M)) → IsLegal M s S H us → Tells us (map (plain_entry ms B) H)
  legal_tells H us h = after_tells (empty_log M) _ _ tt record { now = λ k u f. absurd (none-some u f); none = λ i l. refl } h

pub entries_tell : EntriesTellTheTrails
entries_tell g H k u some sorted legal h =
    (legal_tells g.rules g.budget some g.settings (session_over g) sorted (entries_over g H) (updates_after g H) legal).now k u h ∙ ap (trail_by (suc k)) (plain_kept g.rules g.budget H)
