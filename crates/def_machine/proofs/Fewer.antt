-- At one state and event each update that restarts under precise dependences restarts under coarse ones.
use Rattle.std.proofs.Common.{◌≡◌, ℕ, zero, suc, ◌<◌, ◌≤◌, ◌+◌, ◌-◌, ap, sym, refl, subst, ◌∙◌, List, [], ◌∷◌, ◌++◌, drop, Bool, true, false, not, ◌&&◌, arith, Some, None}
use Rattle.std.specs.Prelude.{if◌then◌else◌, Option, is_some, slice_get, nat_lt}
use Rattle.std.specs.List.{list_any, list_all}
use Rattle.std.proofs.lemmas.Bool.{and_parts, and_right, or_parts, or_from, ltb-true, both_ways, ltb-false}
use Rattle.std.proofs.lemmas.Option.{same_Some, none-some}
use Rattle.def_machine.specs.Machine.{Machine, Laws}
use Rattle.def_machine.specs.Updates.{Update, Session, Deps, Precise, Coarse, trail, below, committed}
use Rattle.def_machine.specs.Reads.{is_valid}
use Rattle.def_machine.specs.Standings.{is_nil}
use Rattle.def_machine.specs.Cascade.{Cause, Member, readers, has_number, is_live, conflict_of, dependence_of, read_depends, with_member, without_member, cascade, conflicts}
use Rattle.def_machine.specs.Settle.{cause_of, settle}
use Rattle.def_machine.specs.Steps.{stepped}
use Rattle.def_machine.specs.Effects.{Event, Admits, Steps, Delivers, Answers, Withdraws, Effect, is_spent, causes_of_loss, causes_of_writes, causes_of_step, step_effect, withdraw_effect, deliver_effect, answer_effect, admit_effect, may_step, may_deliver, may_answer, may_withdraw, effect, Entry}
use Rattle.def_machine.specs.Histories.{empty_log, causes_in}
use Rattle.def_machine.specs.Runs.{IsRun, AreRuns}
use Rattle.def_machine.specs.DepsLaw.{with_deps, DepsLaw}
use Rattle.def_machine.proofs.Basics.{some_or, some_of}
use Rattle.def_machine.proofs.Settling.{Apart, apart_kept, apart_more, avoids_split, more_members, conflict_some, dependence_some, stays}
use Rattle.def_machine.proofs.Walks.{AreNumbers, numbers_of_writes, numbers_of_loss, conflicts_above, cascade_above, readers_join}
use Rattle.def_machine.proofs.Standing.{ready_parts, not_over}
use Rattle.def_machine.proofs.Places.{allowed_is, committed_below, sound_below, runs_above, dropped_same}
use Rattle.def_machine.proofs.Events.{after_runs}

any_not : {A : Type 0} (p : A → Bool) (xs : List A) → list_all p xs ≡ true → list_any (λ x. not (p x)) xs ≡ false
any_not p [] h = refl
any_not p (x ∷ xs) h = let q = and_parts _ _ h in or_from _ _ (ap not q.0) (any_not p xs q.1)

-- where the first has a cause, so has the second
abbrev pub AreAmong : (M : Machine) → List (Option (Cause M)) → List (Option (Cause M)) → Type 0
AreAmong M [] ys = Unit {0}
AreAmong M (x ∷ xs) [] = ⊥
AreAmong M (x ∷ xs) (y ∷ ys) = (is_some x ≡ true → is_some y ≡ true) × AreAmong M xs ys

module _ (M : Machine) (L : Laws M) where
  dead_stays : (deps : Deps) (conflicting : Bool) (c j : ℕ) (E N : M.Repository) (ms : List (Member M)) (n : ℕ) (u : Update M) → u.withdrawn ≡ true → is_some (cause_of M deps conflicting c j E N ms n u) ≡ false
  dead_stays deps conflicting c j E N ms n u w =
      some_or (if conflicting then conflict_of M c j E n u else None) (dependence_of M deps c N ms n u)
      ∙ or_from _ _ (by conflicting)
      (dependence_some M deps c N ms n u ∙ ap (λ b. (b && not (is_nil ms)) && list_any (read_depends M deps u.operation N (M.own u.state) ms) u.log) dead)
    where
      dead : is_live M c n u ≡ false
      dead = and_right (nat_lt c n) _ (ap not w)

      by : (b : Bool) → is_some (if b then conflict_of M c j E n u else None) ≡ false
      by false = refl
      by true = conflict_some M c j E n u ∙ ap (λ b. b && list_any (λ r. not (is_valid M u.operation E (M.own u.state) r)) u.log) dead

  not_marked : (conflicting : Bool) (c j : ℕ) (D E N F : M.Repository) (ms ks : List (Member M)) (n : ℕ) (u : Update M) → c < n → (conflicting ≡ false → D ≡ E) → Apart M ks E N → IsRun M D n u
      → is_some (cause_of M Coarse conflicting c j E F ks n u) ≡ false → is_some (cause_of M Precise conflicting c j E N ms n u) ≡ false
  not_marked conflicting c j D E N F ms ks n u l same a r h = go u.withdrawn refl
    where
      go : (w : Bool) → u.withdrawn ≡ w → is_some (cause_of M Precise conflicting c j E N ms n u) ≡ false
      go true w = dead_stays Precise conflicting c j E N ms n u w
      go false w =
          let parts = or_parts _ _ (sym (some_or (if conflicting then conflict_of M c j E n u else None) (dependence_of M Coarse c F ks n u)) ∙ h) in
          some_or (if conflicting then conflict_of M c j E n u else None) (dependence_of M Precise c N ms n u)
          ∙ or_from _ _ parts.0
          (dependence_some M Precise c N ms n u
          ∙ and_right (is_live M c n u && not (is_nil ms)) _ (any_not (is_valid M u.operation N (M.own u.state)) u.log (stays M L Coarse conflicting c j D E N ks n u l same a r h w)))

  -- the precise walk goes with E, N and the members ms, the coarse one with E, F and ks
  fewer : (conflicting : Bool) (c j : ℕ) (D E N F : M.Repository) (ms ks : List (Member M)) (n : ℕ) (us : List (Update M)) → c < n → (conflicting ≡ false → D ≡ E) → Apart M ks E N → AreRuns M D n us
      → AreAmong M (settle M Precise conflicting c j E N ms n us) (settle M Coarse conflicting c j E F ks n us)
  fewer conflicting c j D E N F ms ks n [] l same a r = tt
  fewer conflicting c j D E N F ms ks n (u ∷ us) l same a r =
      let next : conflicting ≡ false → M.apply D (trail M u) ≡ M.apply E (trail M u) = λ e. ap (λ G. M.apply G (trail M u)) (same e) in
      by (is_some (cause_of M Precise conflicting c j E N ms n u)) (is_some (cause_of M Coarse conflicting c j E F ks n u)) (not_marked conflicting c j D E N F ms ks n u l same a r.0)
      (λ N' F' ms' ks' b. fewer conflicting c j (M.apply D (trail M u)) (M.apply E (trail M u)) N' F' ms' ks' (suc n) us (omega arith) next b r.1)
    where
      both : Apart M (ks ++ record { number = n; trail = trail M u } ∷ []) (M.apply E (trail M u)) (M.apply N (trail M u))
      both = record {
        same = λ e. absurd (both_ways _ (more_members ks _) e);
        alike = λ p h. L.alike_apply p E N (trail M u) (a.alike p (avoids_split M p ks (record { number = n; trail = trail M u } ∷ []) h).0);
      }

      by : (x y : Bool) → (y ≡ false → x ≡ false)
          → ((N' F' : M.Repository) (ms' ks' : List (Member M)) → Apart M ks' (M.apply E (trail M u)) N' → AreAmong M (settle M Precise conflicting c j (M.apply E (trail M u)) N' ms' (suc n) us) (settle M Coarse conflicting c j (M.apply E (trail M u)) F' ks' (suc n) us))
          → (x ≡ true → y ≡ true) × AreAmong M (settle M Precise conflicting c j (M.apply E (trail M u)) (without_member M x N u) (with_member M x ms n u) (suc n) us) (settle M Coarse conflicting c j (M.apply E (trail M u)) (without_member M y F u) (with_member M y ks n u) (suc n) us)
      by true true h rec = (λ e. refl, rec N F _ _ (apart_more M L ks E N (record { number = n; trail = trail M u }) a))
      by false true h rec = (λ e. refl, rec _ F ms _ both)
      by false false h rec = (λ e. e, rec _ _ ms ks (apart_kept M L ks E N (trail M u) a))
      by true false h rec = absurd (both_ways true (h refl) refl)

  -- the numbers follow the marks
  among : (ns ks : List ℕ) (n i m : ℕ) (xs ys : List (Option (Cause M))) (d : Deps) (c j : ℕ) → m ≡ n + i → AreNumbers M d c j ns n xs → AreNumbers M d c j ks n ys → AreAmong M xs ys → (x : Option (Cause M)) → slice_get xs i ≡ Some x → has_number ns m ≡ true → has_number ks m ≡ true
  among ns ks n i m [] ys d c j e a b f x g h = absurd (none-some x g)
  among ns ks n i m (y ∷ xs) [] d c j e a b f x g h = absurd f
  among ns ks n zero m (y ∷ xs) (z ∷ ys) d c j e a b f x g h =
      let s : m ≡ n = omega arith in
      ap (λ k. has_number ks k) s ∙ b.0 ∙ f.0 (sym a.0 ∙ ap (λ k. has_number ns k) (sym s) ∙ h)
  among ns ks n (suc i) m (y ∷ xs) (z ∷ ys) d c j e a b f x g h = among ns ks (suc n) i m xs ys d c j (omega (arith, e)) a.1 b.1 f.1 x g h

  settle_at : (deps : Deps) (conflicting : Bool) (c j : ℕ) (E N : M.Repository) (ms : List (Member M)) (n i : ℕ) (us : List (Update M)) (u : Update M) → slice_get us i ≡ Some u → (x : Option (Cause M)) × (slice_get (settle M deps conflicting c j E N ms n us) i ≡ Some x)
  settle_at deps conflicting c j E N ms n i [] u h = absurd (none-some u h)
  settle_at deps conflicting c j E N ms n zero (v ∷ us) u h = (cause_of M deps conflicting c j E N ms n v, refl)
  settle_at deps conflicting c j E N ms n (suc i) (v ∷ us) u h =
      let b : Bool = is_some (cause_of M deps conflicting c j E N ms n v) in
      settle_at deps conflicting c j (M.apply E (trail M v)) (without_member M b N v) (with_member M b ms n v) (suc n) i us u h

  -- no cause names an update at or below j
  abbrev pub AreAbove : ℕ → List ℕ → Type 0
  AreAbove j ns = (k : ℕ) → k < suc j → has_number ns k ≡ false

  pub writes_above : (deps : Deps) (c j : ℕ) (E : M.Repository) (us : List (Update M)) → AreAbove j (readers (causes_of_writes M deps c j E us))
  writes_above deps c j E us k h =
      let first : List (Cause M) = conflicts M c j E (suc j) us in
      readers_join M first (cascade M deps c (readers first) E [] (suc j) us) k
      ∙ or_from _ _ (conflicts_above M deps c j E (suc j) k us h) (cascade_above M deps c j (readers first) E [] (suc j) k us h)

  pub loss_above : (deps : Deps) (c j : ℕ) (D : M.Repository) (u : Update M) (us : List (Update M)) → AreAbove j (readers (causes_of_loss M deps c j D u us))
  loss_above deps c j D u us k h = cascade_above M deps c j [] D (record { number = j; trail = trail M u } ∷ []) (suc j) k us h

  -- each of the updates above j that the first restart, the second do
  abbrev pub IsMore : ℕ → List (Update M) → List ℕ → List ℕ → Type 0
  IsMore j us ns ks = (i m : ℕ) (u : Update M) → m ≡ suc j + i → slice_get us i ≡ Some u → has_number ns m ≡ true → has_number ks m ≡ true

  loss_more : (c j : ℕ) (D : M.Repository) (u : Update M) (us : List (Update M)) → M.Sound D → c < suc j → AreRuns M (M.apply D (trail M u)) (suc j) us → IsMore j us (readers (causes_of_loss M Precise c j D u us)) (readers (causes_of_loss M Coarse c j D u us))
  loss_more c j D u us z l r i m v e f h =
      let ms : List (Member M) = record { number = j; trail = trail M u } ∷ [] in
      let E : M.Repository = M.apply D (trail M u) in
      let x = settle_at Precise false c j E D ms (suc j) i us v f in
      among (readers (causes_of_loss M Precise c j D u us)) (readers (causes_of_loss M Coarse c j D u us)) (suc j) i m (settle M Precise false c j E D ms (suc j) us) (settle M Coarse false c j E D ms (suc j) us) Precise c j e
      (numbers_of_loss M Precise c j D u us) (numbers_of_loss M Coarse c j D u us)
      (fewer false c j E E D D ms ms (suc j) us l (λ e. refl) record { same = λ e. absurd (both_ways true (sym e) refl); alike = λ p a. L.alike_skip p D D (trail M u) a.0 (L.alike_same p D z) } r) x.0 x.1 h

  writes_more : (c j : ℕ) (D E : M.Repository) (us : List (Update M)) → M.Sound E → c < suc j → AreRuns M D (suc j) us → IsMore j us (readers (causes_of_writes M Precise c j E us)) (readers (causes_of_writes M Coarse c j E us))
  writes_more c j D E us z l r i m v e f h =
      let x = settle_at Precise true c j E E [] (suc j) i us v f in
      among (readers (causes_of_writes M Precise c j E us)) (readers (causes_of_writes M Coarse c j E us)) (suc j) i m (settle M Precise true c j E E [] (suc j) us) (settle M Coarse true c j E E [] (suc j) us) Precise c j e
      (numbers_of_writes M Precise c j E us) (numbers_of_writes M Coarse c j E us)
      (fewer true c j D E E E [] [] (suc j) us l (λ e. absurd (both_ways true e refl)) record { same = λ e. refl; alike = λ p a. L.alike_same p E z } r) x.0 x.1 h

  step_more : (c j : ℕ) (D : M.Repository) (u v : Update M) (us : List (Update M)) → M.Sound D → c < suc j → AreRuns M (M.apply D (trail M u)) (suc j) us
      → IsMore j us (readers (causes_of_step M Precise c j D u v us)) (readers (causes_of_step M Coarse c j D u v us)) × AreAbove j (readers (causes_of_step M Precise c j D u v us))
  step_more c j D u v us z l r = by (is_spent (M.outcome v.state))
    where
      by : (b : Bool) → IsMore j us (readers (if b then causes_of_loss M Precise c j D u us else causes_of_writes M Precise c j (M.apply D (trail M v)) us)) (readers (if b then causes_of_loss M Coarse c j D u us else causes_of_writes M Coarse c j (M.apply D (trail M v)) us))
          × AreAbove j (readers (if b then causes_of_loss M Precise c j D u us else causes_of_writes M Precise c j (M.apply D (trail M v)) us))
      by true = (loss_more c j D u us z l r, loss_above Precise c j D u us)
      by false = (writes_more c j (M.apply D (trail M u)) (M.apply D (trail M v)) us (L.sound_apply D (trail M v) z) l r, writes_above Precise c j (M.apply D (trail M v)) us)

  -- among all updates, where j is the one at place p
  all_more : (p k : ℕ) (us : List (Update M)) (u : Update M) (ns ks : List ℕ) → IsMore (suc p) (drop (suc p) us) ns ks → AreAbove (suc p) ns → slice_get us k ≡ Some u → has_number ns (suc k) ≡ true → has_number ks (suc k) ≡ true
  all_more p k us u ns ks h a f g = by (nat_lt (suc k) (suc (suc p))) refl
    where
      by : (b : Bool) → nat_lt (suc k) (suc (suc p)) ≡ b → has_number ks (suc k) ≡ true
      by true e = absurd (both_ways _ (a (suc k) (ltb-true _ _ e)) g)
      by false e =
          let low : suc (suc p) ≤ suc k = ltb-false _ _ e in
          h (k - suc p) (suc k) u (omega (arith, low)) (dropped_same us (suc p) (k - suc p) k (omega (arith, low)) ∙ f) g

  module _ (K : ℕ) (S : Session M) (us : List (Update M)) (z : M.Sound S.base) (r : AreRuns M S.base 1 us) where
    above_is : (k : ℕ) (u : Update M) → slice_get us k ≡ Some u → AreRuns M (M.apply (below M S.base us k) (trail M u)) (suc (suc k)) (drop (suc k) us)
    above_is k u h = let e : suc (1 + k) ≡ suc (suc k) = omega arith in subst (λ m. AreRuns M (M.apply (below M S.base us k) (trail M u)) m (drop (suc k) us)) e (runs_above M L S.base 1 k us u r h)

    abbrev More : Effect M → Effect M → Type 0
    More x y = (k : ℕ) (u : Update M) → slice_get us k ≡ Some u → has_number (readers (causes_in x.entry)) (suc k) ≡ true → has_number (readers (causes_in y.entry)) (suc k) ≡ true

    step_deps : (p : ℕ) (v : Update M) → slice_get us p ≡ Some v → may_step M (with_deps K Precise) us p v ≡ true → More (step_effect M (with_deps K Precise) S us p v) (step_effect M (with_deps K Coarse) S us p v)
    step_deps p v h m k u f g =
        let o = ready_parts M (with_deps K Precise) (committed M us) (suc p) v m in
        let low : committed M us ≤ p = committed_below M us p v h (not_over M (with_deps K Precise) (committed M us) (suc p) v o.0) in
        let D : M.Repository = below M S.base us p in
        let w : Update M = stepped M D v in
        let both = step_more (committed M us) (suc p) D v w (drop (suc p) us) (sound_below M L S.base us p z) (omega (arith, low)) (above_is p v h) in
        all_more p k us u (readers (causes_of_step M Precise (committed M us) (suc p) D v w (drop (suc p) us))) (readers (causes_of_step M Coarse (committed M us) (suc p) D v w (drop (suc p) us))) both.0 both.1 f g

    withdraw_deps : (p : ℕ) (v : Update M) → slice_get us p ≡ Some v → may_withdraw M us p v ≡ true → More (withdraw_effect M (with_deps K Precise) S us p v) (withdraw_effect M (with_deps K Coarse) S us p v)
    withdraw_deps p v h m k u f g =
        let low : committed M us < suc p = ltb-true _ _ (and_parts _ _ m).0 in
        let D : M.Repository = below M S.base us p in
        all_more p k us u (readers (causes_of_loss M Precise (committed M us) (suc p) D v (drop (suc p) us))) (readers (causes_of_loss M Coarse (committed M us) (suc p) D v (drop (suc p) us)))
        (loss_more (committed M us) (suc p) D v (drop (suc p) us) (sound_below M L S.base us p z) (omega (arith, low)) (above_is p v h))
        (loss_above Precise (committed M us) (suc p) D v (drop (suc p) us)) f g

    -- no other event has causes
    quiet_deps : (x y : Effect M) (e : Entry M) → causes_in e ≡ [] → e ≡ x.entry → More x y
    quiet_deps x y e n f k u h g = absurd (both_ways (has_number (readers (causes_in x.entry)) (suc k)) (ap (λ cs. has_number (readers cs) (suc k)) (sym (ap causes_in f) ∙ n)) g)

    -- the same update of both
    same_place : {A : Type 0} {p q i : ℕ} {v w : Update M} (f : ℕ → Update M → A) (y : A) → i ≡ suc p → i ≡ suc q → slice_get us p ≡ Some v → slice_get us q ≡ Some w → f q w ≡ y → f p v ≡ y
    same_place {A} {p} {q} {i} {v} {w} f y e g h k m =
        let s : p ≡ q = omega (arith, e, g) in
        let t : v ≡ w = same_Some v w (sym h ∙ ap (λ n. slice_get us n) s ∙ k) in
        (λ j. f (s j) (t j)) ∙ m

pub deps_law : (M : Machine) → Laws M → DepsLaw M
deps_law M L s S es l e x y z h = by e
  where
    us : List (Update M)
    us = l.updates

    runs : AreRuns M S.base 1 us
    runs = after_runs M L s S (empty_log M) l es z tt h

    by : (e : Event M) → effect M (with_deps s.retries Precise) S us e ≡ Some x → effect M (with_deps s.retries Coarse) S us e ≡ Some y → More M L s.retries S us z runs x y
    by Admits f g =
        let p = some_of (admit_effect M us) _ x f in
        quiet_deps M L s.retries S us z runs x y (admit_effect M us p.0).entry refl (ap (λ (q : Effect M). q.entry) p.2)
    by (Steps i) f g =
        let a = allowed_is us i (may_step M (with_deps s.retries Precise) us) (step_effect M (with_deps s.retries Precise) S us) x f in
        let b = allowed_is us i (may_step M (with_deps s.retries Coarse) us) (step_effect M (with_deps s.retries Coarse) S us) y g in
        let c : step_effect M (with_deps s.retries Coarse) S us a.place a.item ≡ y = same_place M L s.retries S us z runs (step_effect M (with_deps s.retries Coarse) S us) y a.number b.number a.found b.found b.made in
        subst (λ (w : Effect M). More M L s.retries S us z runs w y) a.made
        (subst (λ (w : Effect M). More M L s.retries S us z runs (step_effect M (with_deps s.retries Precise) S us a.place a.item) w) c (step_deps M L s.retries S us z runs a.place a.item a.found a.may))
    by (Delivers i) f g =
        let a = allowed_is us i (may_deliver M (with_deps s.retries Precise) us) (deliver_effect M (with_deps s.retries Precise) us) x f in
        quiet_deps M L s.retries S us z runs x y (deliver_effect M (with_deps s.retries Precise) us a.place a.item).entry refl (ap (λ (q : Effect M). q.entry) a.made)
    by (Answers i c) f g =
        let a = allowed_is us i (may_answer M (with_deps s.retries Precise) us c) (answer_effect M (with_deps s.retries Precise) us c) x f in
        quiet_deps M L s.retries S us z runs x y (answer_effect M (with_deps s.retries Precise) us c a.place a.item).entry refl (ap (λ (q : Effect M). q.entry) a.made)
    by (Withdraws i) f g =
        let a = allowed_is us i (may_withdraw M us) (withdraw_effect M (with_deps s.retries Precise) S us) x f in
        let b = allowed_is us i (may_withdraw M us) (withdraw_effect M (with_deps s.retries Coarse) S us) y g in
        let c : withdraw_effect M (with_deps s.retries Coarse) S us a.place a.item ≡ y = same_place M L s.retries S us z runs (withdraw_effect M (with_deps s.retries Coarse) S us) y a.number b.number a.found b.found b.made in
        subst (λ (w : Effect M). More M L s.retries S us z runs w y) a.made
        (subst (λ (w : Effect M). More M L s.retries S us z runs (withdraw_effect M (with_deps s.retries Precise) S us a.place a.item) w) c (withdraw_deps M L s.retries S us z runs a.place a.item a.found a.may))
