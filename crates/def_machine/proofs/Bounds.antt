-- Attempts and steps are bounded.
use Rattle.std.proofs.Common.{◌≡◌, ℕ, zero, suc, ◌≤◌, ◌<◌, ◌+◌, ◌-◌, ◌*◌, ap, sym, refl, subst, ◌∙◌, suc-le-suc, List, [], ◌∷◌, ◌++◌, take, drop, length, Bool, true, false, not, arith, Some, None}
use Rattle.std.specs.Prelude.{if◌then◌else◌, Option, is_some, slice_get}
use Rattle.std.specs.List.{list_any}
use Rattle.std.proofs.lemmas.Bool.{and_parts, and_right, or_from, lt-ltb, ltb-true, both_ways, and_from}
use Rattle.std.proofs.lemmas.Option.{same_Some, none-some, option_and_then_some}
use Rattle.def_machine.specs.Machine.{Machine, Laws}
use Rattle.def_machine.specs.Updates.{Update, Submission, Session, Settings, Deps, trail, below, committed}
use Rattle.def_machine.specs.Standings.{standing, is_pending}
use Rattle.def_machine.specs.Cascade.{Cause, Member, readers, conflict_of, dependence_of, restarted, read_depends}
use Rattle.def_machine.specs.Settle.{cause_of, settle, restart}
use Rattle.def_machine.specs.Steps.{next_move, stepped}
use Rattle.def_machine.specs.Effects.{Event, Admits, Steps, Delivers, Answers, Withdraws, Entry, Effect, is_spent, causes_of_loss, causes_of_writes, causes_of_step, withdrawn_now, with_answers, step_effect, withdraw_effect, deliver_effect, answer_effect, admitted, admit_effect, may_step, may_deliver, may_answer, may_withdraw, effect}
use Rattle.def_machine.specs.Histories.{Log, with_entry, after}
use Rattle.def_machine.specs.Runs.{AreRuns}
use Rattle.def_machine.specs.Bounds.{AreTried, left, steps_of, admissions_of, steps_in, admissions_in}
use Rattle.def_machine.proofs.Basics.{if_both, some_or, length_from, some_of}
use Rattle.def_machine.proofs.Settling.{settle_both, conflict_some, dependence_some}
use Rattle.def_machine.proofs.Walks.{restarts_of_writes, restarts_of_loss}
use Rattle.def_machine.proofs.Standing.{IsOpen, ready_parts, paused_parts, pending_parts, not_over}
use Rattle.def_machine.proofs.Places.{allowed_is, committed_below, committed_kept, committed_more, runs_at}
use Rattle.def_machine.proofs.Events.{effect_runs}
use Rattle.def_machine.proofs.Serials.{counted}
use Rattle.def_machine.specs.Reads.{is_valid}

-- an update without reads has no cause
empty_stays : (M : Machine) (deps : Deps) (conflicting : Bool) (c j : ℕ) (E N : M.Repository) (ms : List (Member M)) (n : ℕ) (u : Update M) → u.log ≡ [] → is_some (cause_of M deps conflicting c j E N ms n u) ≡ false
empty_stays M deps conflicting c j E N ms n u e =
    some_or (if conflicting then conflict_of M c j E n u else None) (dependence_of M deps c N ms n u)
    ∙ or_from _ _
    (if_both (λ (o : Option (Cause M)). is_some o ≡ false) conflicting _ None (λ h. conflict_some M c j E n u ∙ and_right _ _ (ap (λ l. list_any (λ r. not (is_valid M u.operation E (M.own u.state) r)) l) e)) (λ h. refl))
    (dependence_some M deps c N ms n u ∙ and_right _ _ (ap (λ l. list_any (read_depends M deps u.operation N (M.own u.state) ms) l) e))

weakened : (M : Machine) (K c d n : ℕ) (us : List (Update M)) → c ≤ d → AreTried M K c n us → AreTried M K d n us
weakened M K c d n [] l t = tt
weakened M K c d n (u ∷ us) l t = (t.0, λ e h. t.1 e (omega arith), weakened M K c d (suc n) us l t.2)

-- the attempt's cost falls with a restart
restart_cost : (K a B c z : ℕ) → a ≤ K → z ≡ 0 → (suc K - suc a) * B + (B - z) ≤ (suc K - a) * B + (B - c)
restart_cost K a B c z h e =
    let f : suc K - a ≡ suc (suc K - suc a) = omega arith in
    omega (arith, ap (λ x. x * B) f)

none_used : (K B : ℕ) → (suc K - 0) * B ≡ suc K * B
none_used K B = let e : suc K - 0 ≡ suc K = omega arith in ap (λ x. x * B) e

module _ (M : Machine) (K : ℕ) where
  tried_above : (c n k m : ℕ) (us : List (Update M)) (u : Update M) → m ≡ suc (n + k) → slice_get us k ≡ Some u → AreTried M K c n us → AreTried M K c m (drop (suc k) us)
  tried_above c n k m [] u e h t = absurd (none-some u h)
  tried_above c n zero m (v ∷ us) u e h t = let f : suc n ≡ m = omega arith in subst (λ x. AreTried M K c x us) f t.2
  tried_above c n (suc k) m (v ∷ us) u e h t = tried_above c (suc n) k m us u (omega arith) h t.2

  tried_join : (c n k m : ℕ) (us vs : List (Update M)) → m ≡ n + k → k ≤ length us → AreTried M K c n us → AreTried M K c m vs → AreTried M K c n (take k us ++ vs)
  tried_join c n zero m us vs e l t q = let f : m ≡ n = omega arith in subst (λ x. AreTried M K c x vs) f q
  tried_join c n (suc k) m [] vs e l t q = absurd (omega arith)
  tried_join c n (suc k) m (u ∷ us) vs e l t q = (t.0, t.1, tried_join c (suc n) k m us vs (omega arith) (omega arith) t.2 q)

  pub tried_at : (c n k : ℕ) (us : List (Update M)) (u : Update M) → AreTried M K c n us → slice_get us k ≡ Some u → (u.attempt ≤ suc K) × (u.attempt ≡ suc K → suc c < n + k → u.log ≡ [])
  tried_at c n k [] u t h = absurd (none-some u h)
  tried_at c n zero (v ∷ us) u t h = subst (λ (x : Update M). (x.attempt ≤ suc K) × (x.attempt ≡ suc K → suc c < n + 0 → x.log ≡ [])) (same_Some _ _ h) (t.0, λ e l. t.1 e (omega (arith, l)))
  tried_at c n (suc k) (v ∷ us) u t h = let p = tried_at c (suc n) k us u t.2 h in (p.0, λ e l. p.1 e (omega (arith, l)))

  -- what the first k, then another one and those above it have left
  left_put : (us : List (Update M)) (k : ℕ) (u v : Update M) (vs : List (Update M)) → slice_get us k ≡ Some u
      → left M K (take k us ++ v ∷ vs) + (((suc K - u.attempt) * M.budget + (M.budget - M.count u.state)) + left M K (drop (suc k) us)) ≡ left M K us + (((suc K - v.attempt) * M.budget + (M.budget - M.count v.state)) + left M K vs)
  left_put [] k u v vs h = absurd (none-some u h)
  left_put (w ∷ us) zero u v vs h =
      subst (λ (x : Update M). left M K (v ∷ vs) + (((suc K - x.attempt) * M.budget + (M.budget - M.count x.state)) + left M K us) ≡ left M K (w ∷ us) + (((suc K - v.attempt) * M.budget + (M.budget - M.count v.state)) + left M K vs)) (same_Some _ _ h) (omega arith)
  left_put (w ∷ us) (suc k) u v vs h = omega (arith, left_put us k u v vs h)

module _ (M : Machine) (L : Laws M) (s : Settings) where
  -- a member can still be restarted
  few : (conflicting : Bool) (c j : ℕ) (E N : M.Repository) (ms : List (Member M)) (n : ℕ) (u : Update M) → suc c < n → u.attempt ≤ suc s.retries → (u.attempt ≡ suc s.retries → suc c < n → u.log ≡ []) → is_some (cause_of M s.deps conflicting c j E N ms n u) ≡ true → u.attempt ≤ s.retries
  few conflicting c j E N ms n u l h e m =
      let k : u.attempt ≡ suc s.retries → ⊥ = λ f. both_ways _ (empty_stays M s.deps conflicting c j E N ms n u (e f l)) m in
      omega arith

  settled_tried : (conflicting : Bool) (c j : ℕ) (E N : M.Repository) (ms : List (Member M)) (n : ℕ) (us : List (Update M)) → suc c < n → AreTried M s.retries c n us
      → AreTried M s.retries c n (restart M n (settle M s.deps conflicting c j E N ms n us) us) × (left M s.retries (restart M n (settle M s.deps conflicting c j E N ms n us) us) ≤ left M s.retries us)
  settled_tried conflicting c j E N ms n [] l t = (tt, omega arith)
  settled_tried conflicting c j E N ms n (u ∷ us) l t =
      settle_both M s.deps conflicting c j E N ms n u us (λ vs. AreTried M s.retries c n vs × (left M s.retries vs ≤ left M s.retries (u ∷ us)))
      (λ m. let low : u.attempt ≤ s.retries = few conflicting c j E N ms n u l t.0 t.1 m in
      let rest = settled_tried conflicting c j (M.apply E (trail M u)) N (ms ++ record { number = n; trail = trail M u } ∷ []) (suc n) us (omega arith) t.2 in (
        (suc-le-suc low, λ e f. refl, rest.0),
        omega (arith, restart_cost s.retries u.attempt M.budget (M.count u.state) (M.count (M.begin n (suc u.attempt) u.operation)) low (L.begin_count n (suc u.attempt) u.operation), rest.1),
      ))
      (λ m. let rest = settled_tried conflicting c j (M.apply E (trail M u)) (M.apply N (trail M u)) ms (suc n) us (omega arith) t.2 in
      ((t.0, t.1, rest.0), omega (arith, rest.1)))

  -- what holds of a list of updates before and after k steps
  abbrev pub Kept : ℕ → ℕ → List (Update M) → ℕ → List (Update M) → Type 0
  Kept c k us n vs = AreTried M s.retries c n vs × (k + left M s.retries vs ≤ left M s.retries us)

  loss_above : (c j : ℕ) (D : M.Repository) (u : Update M) (us : List (Update M)) → c < j → AreTried M s.retries c (suc j) us → Kept c 0 us (suc j) (restarted M (readers (causes_of_loss M s.deps c j D u us)) (suc j) us)
  loss_above c j D u us l t =
      subst (λ vs. Kept c 0 us (suc j) vs) (sym (restarts_of_loss M s.deps c j D u us))
      (let p = settled_tried false c j (M.apply D (trail M u)) D (record { number = j; trail = trail M u } ∷ []) (suc j) us (omega arith) t in (p.0, omega (arith, p.1)))

  step_above : (c j : ℕ) (D : M.Repository) (u v : Update M) (us : List (Update M)) → c < j → AreTried M s.retries c (suc j) us → Kept c 0 us (suc j) (restarted M (readers (causes_of_step M s.deps c j D u v us)) (suc j) us)
  step_above c j D u v us l t =
      if_both (λ (cs : List (Cause M)). Kept c 0 us (suc j) (restarted M (readers cs) (suc j) us)) (is_spent (M.outcome v.state)) (causes_of_loss M s.deps c j D u us) (causes_of_writes M s.deps c j (M.apply D (trail M v)) us)
      (λ g. loss_above c j D u us l t)
      (λ g. subst (λ vs. Kept c 0 us (suc j) vs) (sym (restarts_of_writes M s.deps c j (M.apply D (trail M v)) us))
      (let p = settled_tried true c j (M.apply D (trail M v)) (M.apply D (trail M v)) [] (suc j) us (omega arith) t in (p.0, omega (arith, p.1))))

  -- ---- the updates, with another one at place k

  module _ (us : List (Update M)) (t : AreTried M s.retries (committed M us) 1 us) where
    -- update k + 1 becomes v, which has the same attempt, and k more steps made than u
    placed : (k more : ℕ) (u v : Update M) (vs : List (Update M)) → slice_get us k ≡ Some u → committed M us ≤ k → v.attempt ≡ u.attempt → (u.attempt ≡ suc s.retries → suc (committed M us) < suc k → v.log ≡ []) → more + (M.budget - M.count v.state) ≤ M.budget - M.count u.state
        → Kept (committed M us) 0 (drop (suc k) us) (suc (suc k)) vs → Kept (committed M (take k us ++ v ∷ vs)) more us 1 (take k us ++ v ∷ vs)
    placed k more u v vs h low e quiet costs above =
        let n : suc k ≡ 1 + k = omega arith in
        let at = tried_at M s.retries (committed M us) 1 k us u t h in
        let cost : (suc s.retries - v.attempt) * M.budget ≡ (suc s.retries - u.attempt) * M.budget = ap (λ a. (suc s.retries - a) * M.budget) e in
        let first : v.attempt ≤ suc s.retries = omega (arith, e, at.0) in (
          weakened M s.retries (committed M us) (committed M (take k us ++ v ∷ vs)) 1 (take k us ++ v ∷ vs) (committed_kept M us (v ∷ vs) k low (length_from us k u h))
              (tried_join M s.retries (committed M us) 1 k (suc k) us (v ∷ vs) n (length_from us k u h) t (first, λ f l. quiet (sym e ∙ f) l, above.0)),
          omega (arith, left_put M s.retries us k u v vs h, above.1, costs, cost),
        )

    above_is : (k : ℕ) (u : Update M) → slice_get us k ≡ Some u → AreTried M s.retries (committed M us) (suc (suc k)) (drop (suc k) us)
    above_is k u h = tried_above M s.retries (committed M us) 1 k (suc (suc k)) us u (omega arith) h t

    -- an open update of the highest attempt has only committed ones below it
    top_low : (k : ℕ) (u : Update M) → IsOpen M s (committed M us) (suc k) u → u.attempt ≡ suc s.retries → suc (committed M us) < suc k → ⊥
    top_low k u o e l =
        both_ways _ o.free
        (and_from _ _ (lt-ltb s.retries u.attempt (omega (arith, e))) (lt-ltb (suc (committed M us)) (suc k) l))

    step_kept : (S : Session M) (r : AreRuns M S.base 1 us) (k : ℕ) (u : Update M) → slice_get us k ≡ Some u → may_step M s us k u ≡ true
        → let x = step_effect M s S us k u in Kept (committed M x.updates) 1 us 1 x.updates
    step_kept S r k u h m =
        let p = ready_parts M s (committed M us) (suc k) u m in
        let low : committed M us ≤ k = committed_below M us k u h (not_over M s (committed M us) (suc k) u p.0) in
        let D : M.Repository = below M S.base us k in
        let v : Update M = stepped M D u in
        let made : suc (M.count u.state) ≤ M.budget = (counted M L ((runs_at M L S.base 1 k us u r h).present p.0.present)).1 p.0.going in
        let more : M.count v.state ≡ suc (M.count u.state) = L.moved_count u.state (next_move M u.operation D u.answers u.state) in
        placed k 1 u v (restarted M (readers (causes_of_step M s.deps (committed M us) (suc k) D u v (drop (suc k) us))) (suc (suc k)) (drop (suc k) us)) h low refl (λ e l. absurd (top_low k u p.0 e l)) (omega arith)
        (step_above (committed M us) (suc k) D u v (drop (suc k) us) (omega (arith, low)) (above_is k u h))

    withdraw_kept : (S : Session M) (k : ℕ) (u : Update M) → slice_get us k ≡ Some u → may_withdraw M us k u ≡ true
        → let x = withdraw_effect M s S us k u in Kept (committed M x.updates) 0 us 1 x.updates
    withdraw_kept S k u h m =
        let low : committed M us < suc k = ltb-true _ _ (and_parts _ _ m).0 in
        let D : M.Repository = below M S.base us k in
        placed k 0 u (withdrawn_now M u) (restarted M (readers (causes_of_loss M s.deps (committed M us) (suc k) D u (drop (suc k) us))) (suc (suc k)) (drop (suc k) us)) h (omega (arith, low)) refl (λ e l. refl) (omega arith)
        (loss_above (committed M us) (suc k) D u (drop (suc k) us) low (above_is k u h))

    answers_kept : (k : ℕ) (u : Update M) (answers inbox : List M.Choice) → slice_get us k ≡ Some u → committed M us ≤ k → let vs = take k us ++ with_answers M u answers inbox ∷ drop (suc k) us in Kept (committed M vs) 0 us 1 vs
    answers_kept k u answers inbox h low =
        placed k 0 u (with_answers M u answers inbox) (drop (suc k) us) h low refl
        (λ e l. (tried_at M s.retries (committed M us) 1 k us u t h).1 e (omega (arith, l))) (omega arith) (above_is k u h, omega arith)

  admitted_tried : (c n number : ℕ) (x : Submission M) (us : List (Update M)) → AreTried M s.retries c n us → AreTried M s.retries c n (us ++ admitted M number x ∷ [])
  admitted_tried c n number x [] t = (omega arith, λ e f. refl, tt)
  admitted_tried c n number x (u ∷ us) t = (t.0, t.1, admitted_tried c (suc n) number x us t.2)

  admitted_left : (number : ℕ) (x : Submission M) (us : List (Update M)) → left M s.retries (us ++ admitted M number x ∷ []) ≤ left M s.retries us + (2 + s.retries) * M.budget
  admitted_left number x [] =
      let e : (suc s.retries - (admitted M number x).attempt) * M.budget ≡ suc s.retries * M.budget = none_used s.retries M.budget in
      omega (arith, L.begin_count number 0 x.operation, e)
  admitted_left number x (u ∷ us) = omega (arith, admitted_left number x us)

  -- an event that makes k steps and admits a updates
  abbrev pub Bounded : List (Update M) → Effect M → Type 0
  Bounded us x = AreTried M s.retries (committed M x.updates) 1 x.updates × (steps_of x.entry + left M s.retries x.updates ≤ left M s.retries us + admissions_of x.entry * ((2 + s.retries) * M.budget))

  pub effect_kept : (S : Session M) (us : List (Update M)) (e : Event M) (x : Effect M) → AreRuns M S.base 1 us → AreTried M s.retries (committed M us) 1 us → effect M s S us e ≡ Some x → Bounded us x
  effect_kept S us Admits x r t h =
      let p = some_of (admit_effect M us) (slice_get S.submissions (length us)) x h in
      subst (λ (y : Effect M). Bounded us y) p.2
      (weakened M s.retries (committed M us) _ 1 _ (committed_more M us (admitted M (suc (length us)) p.0 ∷ [])) (admitted_tried (committed M us) 1 (suc (length us)) p.0 us t), omega (arith, admitted_left (suc (length us)) p.0 us))
  effect_kept S us (Steps i) x r t h =
      let a = allowed_is us i (may_step M s us) (step_effect M s S us) x h in
      subst (λ (y : Effect M). Bounded us y) a.made (let k = step_kept us t S r a.place a.item a.found a.may in (k.0, omega (arith, k.1)))
  effect_kept S us (Delivers i) x r t h =
      let a = allowed_is us i (may_deliver M s us) (deliver_effect M s us) x h in
      let o = pending_parts M s (committed M us) (suc a.place) a.item (and_parts (is_pending (standing M s (committed M us) (suc a.place) a.item)) _ a.may).0 in
      subst (λ (y : Effect M). Bounded us y) a.made
      (let k = answers_kept us t a.place a.item (a.item.answers ++ take 1 a.item.inbox) (drop 1 a.item.inbox) a.found (committed_below M us a.place a.item a.found (not_over M s (committed M us) (suc a.place) a.item o.0)) in (k.0, omega (arith, k.1)))
  effect_kept S us (Answers i c) x r t h =
      let a = allowed_is us i (may_answer M s us c) (answer_effect M s us c) x h in
      let o = paused_parts M s (committed M us) (suc a.place) a.item (and_parts _ _ a.may).0 in
      subst (λ (y : Effect M). Bounded us y) a.made
      (let k = answers_kept us t a.place a.item (take (M.taken a.item.state) a.item.answers ++ c ∷ []) a.item.inbox a.found (committed_below M us a.place a.item a.found (not_over M s (committed M us) (suc a.place) a.item o.0)) in (k.0, omega (arith, k.1)))
  effect_kept S us (Withdraws i) x r t h =
      let a = allowed_is us i (may_withdraw M us) (withdraw_effect M s S us) x h in
      subst (λ (y : Effect M). Bounded us y) a.made (let k = withdraw_kept us t S a.place a.item a.found a.may in (k.0, omega (arith, k.1)))

-- ---- histories

steps_join : (M : Machine) (es : List (Entry M)) (e : Entry M) → steps_in (es ++ e ∷ []) ≡ steps_in es + steps_of e
steps_join M [] e = omega arith
steps_join M (d ∷ es) e = omega (arith, steps_join M es e)

admissions_join : (M : Machine) (es : List (Entry M)) (e : Entry M) → admissions_in (es ++ e ∷ []) ≡ admissions_in es + admissions_of e
admissions_join M [] e = omega arith
admissions_join M (d ∷ es) e = omega (arith, admissions_join M es e)

module _ (M : Machine) (L : Laws M) (s : Settings) (S : Session M) where
  -- the bound on all steps so far
  abbrev pub IsBounded : Log M → Type 0
  IsBounded l = AreTried M s.retries (committed M l.updates) 1 l.updates × (steps_in l.entries + left M s.retries l.updates ≤ admissions_in l.entries * ((2 + s.retries) * M.budget))

  spread : (a b C : ℕ) → (a + b) * C ≡ a * C + b * C
  spread a b C = omega arith

  pub bounded_after : (l : Log M) (es : List (Event M)) (m : Log M) → M.Sound S.base → AreRuns M S.base 1 l.updates → IsBounded l → after M s S l es ≡ Some m → IsBounded m
  bounded_after l [] m z r t h = subst (λ (x : Log M). IsBounded x) (same_Some _ _ h) t
  bounded_after l (e ∷ es) m z r t h =
      option_and_then_some (λ x. after M s S (with_entry M l.entries x) es) (effect M s S l.updates e) m h
      (λ x f g. let k = effect_kept M L s S l.updates e x r t.0 f in
      let C : ℕ = (2 + s.retries) * M.budget in
      let more : admissions_in (l.entries ++ x.entry ∷ []) * C ≡ admissions_in l.entries * C + admissions_of x.entry * C = ap (λ a. a * C) (admissions_join M l.entries x.entry) ∙ spread (admissions_in l.entries) (admissions_of x.entry) C in
      bounded_after (with_entry M l.entries x) es m z (effect_runs M L s S l.updates e x z r f) (k.0, omega (arith, t.1, k.1, steps_join M l.entries x.entry, more)) g)
