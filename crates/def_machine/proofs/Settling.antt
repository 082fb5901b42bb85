-- What an event leaves above its update: each update is restarted, or it is still its run over what lies below it now.
use Rattle.std.proofs.Common.{◌≡◌, ℕ, suc, ◌<◌, ap, sym, refl, subst, ◌∙◌, List, [], ◌∷◌, ◌++◌, Bool, true, false, not, ◌&&◌, append-nil, arith, None}
use Rattle.std.specs.Prelude.{if◌then◌else◌, is_some}
use Rattle.std.specs.List.{list_all, list_any, AllByRecursion}
use Rattle.std.proofs.lemmas.Bool.{and_parts, and_from, or_parts, both_ways, lt-ltb}
use Rattle.def_machine.specs.Machine.{Machine, Laws, Avoids}
use Rattle.def_machine.specs.Updates.{Read, Update, Deps, Precise, Coarse, hides, trail}
use Rattle.def_machine.specs.Reads.{is_valid, all_valid, changed_read, first_that}
use Rattle.def_machine.specs.Standings.{is_nil}
use Rattle.def_machine.specs.Cascade.{Member, reads_of, read_depends, is_live, conflict_of, dependence_of, with_member, without_member, begun_again}
use Rattle.def_machine.specs.Settle.{cause_of, settle, restart}
use Rattle.def_machine.specs.Runs.{start, IsRun, AreRuns}
use Rattle.def_machine.proofs.Basics.{if_both, some_map, some_if, some_or, some_first, all_from}
use Rattle.def_machine.proofs.Replay.{reads_valid, replay}

-- none of the members wrote a relation that passes the test
abbrev pub AvoidsAll : (M : Machine) → (ℕ → Bool) → List (Member M) → Type 0
AvoidsAll M p ms = AllByRecursion (λ m. Avoids M p m.trail) ms

pub avoids_split : (M : Machine) (p : ℕ → Bool) (ms ks : List (Member M)) → AvoidsAll M p (ms ++ ks) → AvoidsAll M p ms × AvoidsAll M p ks
avoids_split M p [] ks h = (tt, h)
avoids_split M p (m ∷ ms) ks h = let r = avoids_split M p ms ks h.1 in ((h.0, r.0), r.1)

pub avoids_from : (M : Machine) (p : ℕ → Bool) (ws : List M.Write) → list_any (λ w. p (M.touches w)) ws ≡ false → Avoids M p ws
avoids_from M p [] h = tt
avoids_from M p (w ∷ ws) h = let parts = or_parts _ _ h in (parts.0, avoids_from M p ws parts.1)

pub avoids_all_from : (M : Machine) (r : Read M) (ms : List (Member M)) → list_any (λ m. reads_of M r m.trail) ms ≡ false → AvoidsAll M (M.mentions r.query) ms
avoids_all_from M r [] h = tt
avoids_all_from M r (m ∷ ms) h = let parts = or_parts _ _ h in (avoids_from M (M.mentions r.query) m.trail parts.0, avoids_all_from M r ms parts.1)

-- how the repository below, before any trail is taken away, stands to the one without the members' trails
pub record Apart (M : Machine) (members : List (Member M)) (whole without : M.Repository) : Type 0 where
  pub same : is_nil members ≡ true → whole ≡ without
  pub alike : (p : ℕ → Bool) → AvoidsAll M p members → M.Alike p whole without

pub more_members : {A : Type 0} (ms : List A) (m : A) → is_nil (ms ++ m ∷ []) ≡ false
more_members [] m = refl
more_members (x ∷ ms) m = refl

-- a live update: c are committed, and it has a number above
pub live_is : (M : Machine) (c n : ℕ) (u : Update M) (x : Bool) → c < n → u.withdrawn ≡ false → (is_live M c n u && x) ≡ x
live_is M c n u x h w = ap (λ b. (b && not u.withdrawn) && x) (lt-ltb c n h) ∙ ap (λ b. not b && x) w

pub conflict_some : (M : Machine) (c j : ℕ) (D : M.Repository) (n : ℕ) (u : Update M) → is_some (conflict_of M c j D n u) ≡ (is_live M c n u && list_any (λ r. not (is_valid M u.operation D (M.own u.state) r)) u.log)
conflict_some M c j D n u =
    some_if (is_live M c n u) _
    ∙ ap (λ b. is_live M c n u && b) (some_map _ (changed_read M D u) ∙ some_map _ (first_that (λ r. not (is_valid M u.operation D (M.own u.state) r)) u.log) ∙ some_first (λ r. not (is_valid M u.operation D (M.own u.state) r)) u.log)

pub dependence_some : (M : Machine) (deps : Deps) (c : ℕ) (D : M.Repository) (ms : List (Member M)) (n : ℕ) (u : Update M) → is_some (dependence_of M deps c D ms n u) ≡ ((is_live M c n u && not (is_nil ms)) && list_any (read_depends M deps u.operation D (M.own u.state) ms) u.log)
dependence_some M deps c D ms n u =
    some_if (is_live M c n u && not (is_nil ms)) _
    ∙ ap (λ b. (is_live M c n u && not (is_nil ms)) && b) (some_map _ (first_that (read_depends M deps u.operation D (M.own u.state) ms) u.log) ∙ some_first (read_depends M deps u.operation D (M.own u.state) ms) u.log)

-- the first of the updates, restarted or not, and the others
pub settle_both : (M : Machine) (deps : Deps) (conflicting : Bool) (c j : ℕ) (E N : M.Repository) (ms : List (Member M)) (n : ℕ) (u : Update M) (us : List (Update M)) (P : List (Update M) → Type 0)
    → (is_some (cause_of M deps conflicting c j E N ms n u) ≡ true → P (begun_again M n u ∷ restart M (suc n) (settle M deps conflicting c j (M.apply E (trail M u)) N (ms ++ record { number = n; trail = trail M u } ∷ []) (suc n) us) us))
    → (is_some (cause_of M deps conflicting c j E N ms n u) ≡ false → P (u ∷ restart M (suc n) (settle M deps conflicting c j (M.apply E (trail M u)) (M.apply N (trail M u)) ms (suc n) us) us))
    → P (restart M n (settle M deps conflicting c j E N ms n (u ∷ us)) (u ∷ us))
settle_both M deps conflicting c j E N ms n u us P f g = go (is_some (cause_of M deps conflicting c j E N ms n u)) f g
  where
    go : (b : Bool) → (b ≡ true → P (begun_again M n u ∷ restart M (suc n) (settle M deps conflicting c j (M.apply E (trail M u)) N (ms ++ record { number = n; trail = trail M u } ∷ []) (suc n) us) us))
        → (b ≡ false → P (u ∷ restart M (suc n) (settle M deps conflicting c j (M.apply E (trail M u)) (M.apply N (trail M u)) ms (suc n) us) us))
        → P ((if b then begun_again M n u else u) ∷ restart M (suc n) (settle M deps conflicting c j (M.apply E (trail M u)) (without_member M b N u) (with_member M b ms n u) (suc n) us) us)
    go true f g = f refl
    go false f g = g refl

module _ (M : Machine) (L : Laws M) where
  pub run_valid : (D : M.Repository) (n : ℕ) (u : Update M) → u.withdrawn ≡ false → IsRun M D n u → all_valid M D u ≡ true
  run_valid D n u w r = reads_valid M L [] (M.own u.state) (sym (append-nil (M.own u.state))) (r.present w)

  pub run_kept : (D E : M.Repository) (n : ℕ) (u : Update M) → IsRun M D n u → (u.withdrawn ≡ false → all_valid M E u ≡ true) → IsRun M E n u
  run_kept D E n u r v = record { present = λ w. replay M L E [] (M.own u.state) (sym (append-nil (M.own u.state))) (r.present w) (v w); gone = r.gone }

  pub apart_kept : (ms : List (Member M)) (E N : M.Repository) (ws : List M.Write) → Apart M ms E N → Apart M ms (M.apply E ws) (M.apply N ws)
  apart_kept ms E N ws a = record {
    same = λ h. ap (λ D. M.apply D ws) (a.same h);
    alike = λ p h. L.alike_apply p E N ws (a.alike p h);
  }

  pub apart_more : (ms : List (Member M)) (E N : M.Repository) (m : Member M) → Apart M ms E N → Apart M (ms ++ m ∷ []) (M.apply E m.trail) N
  apart_more ms E N m a = record {
    same = λ h. absurd (both_ways _ (more_members ms m) h);
    alike = λ p h. let parts = avoids_split M p ms (m ∷ []) h in L.alike_skip p E N m.trail parts.1.0 (a.alike p parts.0);
  }

  pub unmentioned : (op : M.Operation) (own : List M.Write) (ms : List (Member M)) (E N : M.Repository) → ((p : ℕ → Bool) → AvoidsAll M p ms → M.Alike p E N) → (log : List (Read M)) → list_any (λ r. list_any (λ m. reads_of M r m.trail) ms) log ≡ false → list_all (is_valid M op E own) log ≡ true → list_all (is_valid M op N own) log ≡ true
  unmentioned op own ms E N a [] h v = refl
  unmentioned op own ms E N a (r ∷ rs) h v =
      let hs = or_parts _ _ h in
      let vs = and_parts _ _ v in
      and_from _ _
      (ap (λ x. M.same r.answer x) (sym (L.alike_value op r.query E N _ (a (M.mentions r.query) (avoids_all_from M r ms hs.0)))) ∙ vs.0)
      (unmentioned op own ms E N a rs hs.1 vs.1)

  begun_again_trail : (n : ℕ) (u : Update M) → trail M (begun_again M n u) ≡ []
  begun_again_trail n u =
      if_both (λ ws. ws ≡ []) u.withdrawn _ _ (λ h. refl)
      (λ h. if_both (λ ws. ws ≡ []) (hides (M.outcome (M.begin n (suc u.attempt) u.operation))) _ _ (λ g. refl) (λ g. L.begin_own n (suc u.attempt) u.operation))

  -- no read depends on the members: the reads keep their values without these
  free_stays : (deps : Deps) (E N : M.Repository) (ms : List (Member M)) (u : Update M) → ((p : ℕ → Bool) → AvoidsAll M p ms → M.Alike p E N) → all_valid M E u ≡ true → list_any (read_depends M deps u.operation N (M.own u.state) ms) u.log ≡ false → all_valid M N u ≡ true
  free_stays Precise E N ms u a v h = all_from (is_valid M u.operation N (M.own u.state)) u.log h
  free_stays Coarse E N ms u a v h = unmentioned u.operation (M.own u.state) ms E N a u.log h v

  -- an update that has no cause keeps its reads' values
  pub stays : (deps : Deps) (conflicting : Bool) (c j : ℕ) (D E N : M.Repository) (ms : List (Member M)) (n : ℕ) (u : Update M) → c < n → (conflicting ≡ false → D ≡ E) → Apart M ms E N → IsRun M D n u → is_some (cause_of M deps conflicting c j E N ms n u) ≡ false → u.withdrawn ≡ false → all_valid M N u ≡ true
  stays deps conflicting c j D E N ms n u l same a r h w =
      let parts = or_parts _ _ (sym (some_or (if conflicting then conflict_of M c j E n u else None) (dependence_of M deps c N ms n u)) ∙ h) in
      let valid : all_valid M E u ≡ true = now conflicting parts.0 (λ e. run_valid E n u w (subst (λ F. IsRun M F n u) (same e) r)) in
      by (is_nil ms) refl valid
      (sym (live_is M c n u (not (is_nil ms) && list_any (read_depends M deps u.operation N (M.own u.state) ms) u.log) l w)
      ∙ sym (shift (is_live M c n u) (not (is_nil ms)) (list_any (read_depends M deps u.operation N (M.own u.state) ms) u.log))
      ∙ sym (dependence_some M deps c N ms n u) ∙ parts.1)
    where
      now : (b : Bool) → is_some (if b then conflict_of M c j E n u else None) ≡ false → (b ≡ false → all_valid M E u ≡ true) → all_valid M E u ≡ true
      now true e f = all_from (is_valid M u.operation E (M.own u.state)) u.log (sym (live_is M c n u (list_any (λ r. not (is_valid M u.operation E (M.own u.state) r)) u.log) l w) ∙ sym (conflict_some M c j E n u) ∙ e)
      now false e f = f refl

      shift : (x y z : Bool) → ((x && y) && z) ≡ (x && (y && z))
      shift true y z = refl
      shift false y z = refl

      by : (b : Bool) → is_nil ms ≡ b → all_valid M E u ≡ true → (not b && list_any (read_depends M deps u.operation N (M.own u.state) ms) u.log) ≡ false → all_valid M N u ≡ true
      by true e v f = subst (λ F. all_valid M F u ≡ true) (a.same e) v
      by false e v f = free_stays deps E N ms u a.alike v f

  pub settled_runs : (deps : Deps) (conflicting : Bool) (c j : ℕ) (D E N : M.Repository) (ms : List (Member M)) (n : ℕ) (us : List (Update M)) → c < n → (conflicting ≡ false → D ≡ E) → Apart M ms E N → AreRuns M D n us
      → AreRuns M N n (restart M n (settle M deps conflicting c j E N ms n us) us)
  settled_runs deps conflicting c j D E N ms n [] l same a r = tt
  settled_runs deps conflicting c j D E N ms n (u ∷ us) l same a r =
      let next : conflicting ≡ false → M.apply D (trail M u) ≡ M.apply E (trail M u) = λ e. ap (λ F. M.apply F (trail M u)) (same e) in
      settle_both M deps conflicting c j E N ms n u us (λ vs. AreRuns M N n vs)
      (λ h. (
        record { present = λ w. start; gone = λ w. refl },
        subst (λ F. AreRuns M F (suc n) (restart M (suc n) (settle M deps conflicting c j (M.apply E (trail M u)) N (ms ++ record { number = n; trail = trail M u } ∷ []) (suc n) us) us))
            (sym (ap (λ ws. M.apply N ws) (begun_again_trail n u) ∙ L.apply_none N))
            (settled_runs deps conflicting c j (M.apply D (trail M u)) (M.apply E (trail M u)) N (ms ++ record { number = n; trail = trail M u } ∷ []) (suc n) us (omega arith) next (apart_more ms E N (record { number = n; trail = trail M u }) a) r.1),
      ))
      (λ h. (
        run_kept D N n u r.0 (stays deps conflicting c j D E N ms n u l same a r.0 h),
        settled_runs deps conflicting c j (M.apply D (trail M u)) (M.apply E (trail M u)) (M.apply N (trail M u)) ms (suc n) us (omega arith) next (apart_kept ms E N (trail M u) a) r.1,
      ))
