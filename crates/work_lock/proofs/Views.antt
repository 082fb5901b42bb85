-- How the rule survives a change of one seat's view, with whatever changes beside it.
use Rattle.std.proofs.Common.{◌≡◌, ◌≢◌, ◌⊎◌, inl, inr, ℕ, ◌+◌, ◌<◌, ◌≤◌, List, [], ◌∷◌, length, set, sym, refl, ap, ◌∙◌, subst, arith, length-set, Some}
use Rattle.std.specs.declared.option.Option as rattle
use mathlib.Core.Option.{Option, none, some, some-injective}
use native.Mathlib.Decide.{ℕ_discrete}
use mathlib.Core.Logic.{dite}
use lib.ListN.{get_elem?}
use Rattle.def_record.specs.declared.made.Made.{Made}
use Rattle.work_lock.specs.declared.view.View.{View}
use Rattle.work_lock.specs.declared.view.Stage.{Stage}
use Rattle.work_lock.specs.declared.view.Stage.TheVariants.{Resting, Waiting, Opened, Spent}
use Rattle.atomic_table.proofs.Lists.{set_else}
use Rattle.work_lock.specs.Rule.{wrap, HasTurn, turns_in, total, IsSpent, Fits, KeptOf}
use Rattle.def_record.specs.Makers.{FollowsAmong}
use Rattle.work_lock.proofs.Lists.{all_set}
use Rattle.work_lock.proofs.Totals.{total_set}

abbrev pub IsLive : Stage → Type 0
IsLive Spent = ⊥
IsLive Resting = Unit {0}
IsLive (Waiting t) = Unit {0}
IsLive (Opened t) = Unit {0}

not_spent : (st : Stage) → IsLive st → st ≡ Spent → ⊥
not_spent st live is = subst IsLive is live

abbrev pub IsOpened : Stage → Type 0
IsOpened (Opened t) = Unit {0}
IsOpened _ = ⊥

module _ {E : Type 0} where
  -- a seat that was joined is none that still acts
  pub spent_apart : (vs : List (View E)) (id : ℕ) (v : View E) (k : ℕ) → get_elem? vs id ≡ some v → IsLive v.stage → IsSpent vs k → k ≢ id
  spent_apart vs id v k at live sp same =
      not_spent v.stage live (ap (λ (u : View E). u.stage) (some-injective v sp.0 (sym at ∙ (ap (get_elem? vs) (sym same) ∙ sp.1))) ∙ sp.2)

  -- a seat that was joined stays so, whatever another does
  pub spent_stays : (vs : List (View E)) (id : ℕ) (v w : View E) (k : ℕ) → get_elem? vs id ≡ some v → IsLive v.stage → IsSpent vs k → IsSpent (set vs id w) k
  spent_stays vs id v w k at live sp = dite (ℕ_discrete k id)
      (λ same. absurd (not_spent v.stage live (ap (λ (u : View E). u.stage) (some-injective v sp.0 (sym at ∙ (ap (get_elem? vs) (sym same) ∙ sp.1))) ∙ sp.2)))
      (λ other. (sp.0, set_else vs id k w other ∙ sp.1, sp.2))

module _ {E V : Type 0} (entries : V → List (Made E)) where
  pub turn_within : (given passed : ℕ) (current : List (Made E)) (homes : List (Option (rattle.Option V))) (n j : ℕ) (v : View E) (t : ℕ) (st : Stage) → Fits entries given passed current homes n j v st → HasTurn t st → (passed ≤ t) × (t < given)
  turn_within given passed current homes n j v t (Waiting u) f h = let a = f.2 in let b = f.3 in (omega arith, omega arith)
  turn_within given passed current homes n j v t (Opened u) f h = let a = f.2 in let b = f.3 in (omega arith, omega arith)
  turn_within given passed current homes n j v t Resting f h = absurd h
  turn_within given passed current homes n j v t Spent f h = absurd h

  -- what another seat knows stays so
  pub other_fits : (given passed : ℕ) (current : List (Made E)) (homes : List (Option (rattle.Option V))) (given' passed' : ℕ) (current' : List (Made E)) (homes' : List (Option (rattle.Option V))) (n j : ℕ) (v : View E) (st : Stage)
      → ((xs : List (Made E)) → FollowsAmong n j xs current → FollowsAmong n j xs current')
      → ((t : ℕ) → HasTurn t st → passed ≤ t → t < given → (passed' ≤ t) × (t < given'))
      → ((t : ℕ) → st ≡ Opened t → (current ≡ current') × (passed ≡ passed') × (homes ≡ homes'))
      → Fits entries given passed current homes n j v st → Fits entries given' passed' current' homes' n j v st
  other_fits given passed current homes given' passed' current' homes' n j v Spent grow turn opens f = tt
  other_fits given passed current homes given' passed' current' homes' n j v Resting grow turn opens f = (f.0, grow v.seen f.1)
  other_fits given passed current homes given' passed' current' homes' n j v (Waiting t) grow turn opens f = let h = turn t refl f.2 f.3 in (f.0, grow v.seen f.1, h.0, h.1)
  other_fits given passed current homes given' passed' current' homes' n j v (Opened t) grow turn opens f =
      let at_least : passed ≤ t = let e = f.2 in omega arith in
      let h = turn t refl at_least f.3 in
      let o = opens t refl in (f.0, f.1 ∙ o.0, f.2 ∙ o.1, h.1, sym o.2 ∙ f.4)

  abbrev pub Slot : List (Made E) → ℕ → List (Option (rattle.Option V)) → List (View E) → Type 0
  Slot current passed homes views = ((x : V) × (homes ≡ some (Some x) ∷ []) × (entries x ≡ current)) ⊎ ((homes ≡ none ∷ []) × ((j : ℕ) × (v : View E) × (get_elem? views j ≡ some v) × (v.stage ≡ Opened passed)))

  -- the seat id goes from v to w
  unfoldable pub changed : (words : List ℕ) (homes : List (Option (rattle.Option V))) (views : List (View E)) (r : KeptOf entries words homes views) (id : ℕ) (v w : View E)
      → get_elem? views id ≡ some v → IsLive v.stage
      → (words' : List ℕ) (homes' : List (Option (rattle.Option V))) (current' : List (Made E)) (given' passed' : ℕ)
      → words' ≡ wrap given' ∷ wrap passed' ∷ length current' ∷ []
      → passed' + (total views + turns_in w.stage) ≡ given' + turns_in v.stage
      → Fits entries given' passed' current' homes' (length views) id w w.stage
      → ((j : ℕ) (d : View E) → j ≢ id → get_elem? views j ≡ some d → Fits entries r.given r.passed r.current homes (length views) j d d.stage → Fits entries given' passed' current' homes' (length views) j d d.stage)
      → ((k : ℕ) (d : View E) (t : ℕ) → k ≢ id → get_elem? views k ≡ some d → HasTurn t w.stage → HasTurn t d.stage → ⊥)
      → ((j : ℕ) (xs : List (Made E)) → j ≢ id → FollowsAmong (length views) j xs r.current → FollowsAmong (length views) j xs current')
      → Slot current' passed' homes' (set views id w)
      → (0 < w.dealt → (id ≡ 0) × (w.dealt ≡ length views))
      → ((k : ℕ) (xs : List (Made E)) → get_elem? w.joined k ≡ some xs → FollowsAmong (length views) (k + 1) xs current' × IsSpent (set views id w) (k + 1))
      → KeptOf entries words' homes' (set views id w)
  changed words homes views r id v w at live words' homes' current' given' passed' words_are counted mine others turns grown slot deals gathers =
      let n : length (set views id w) ≡ length views = length-set views id w in
      let sum = total_set views id v w at in record {
        current = current';
        given = given';
        passed = passed';
        words_are = words_are;
        few = subst (λ (m : ℕ). m ≤ 16) (sym n) r.few;
        counted = omega arith;
        each = subst (λ (m : ℕ). (j : ℕ) (d : View E) → get_elem? (set views id w) j ≡ some d → Fits entries given' passed' current' homes' m j d d.stage) (sym n)
            (all_set (λ j d. Fits entries given' passed' current' homes' (length views) j d d.stage) views id w mine (λ j d other e. others j d other e (r.each j d e)));
        apart = all_set (λ j d. (k : ℕ) (u : View E) (t : ℕ) → get_elem? (set views id w) k ≡ some u → HasTurn t d.stage → HasTurn t u.stage → j ≡ k) views id w
            (λ k u t there mine_has. all_set (λ k u. HasTurn t u.stage → id ≡ k) views id w (λ _. refl) (λ k u other e has. absurd (turns k u t other e mine_has has)) k u there)
            (λ j d other e k u t there has. all_set (λ k u. HasTurn t u.stage → j ≡ k) views id w (λ w_has. absurd (turns j d t other e w_has has)) (λ k u _ e'. r.apart j d e k u t e' has) k u there);
        dealer = all_set (λ j d. 0 < d.dealt → (j ≡ 0) × (d.dealt ≡ length (set views id w))) views id w
            (λ some. let q = deals some in (q.0, q.1 ∙ sym n))
            (λ j d _ e some. let q = r.dealer j d e some in (q.0, q.1 ∙ sym n));
        gathered = subst (λ (m : ℕ). (j : ℕ) (d : View E) → get_elem? (set views id w) j ≡ some d → (k : ℕ) (xs : List (Made E)) → get_elem? d.joined k ≡ some xs → FollowsAmong m (k + 1) xs current' × IsSpent (set views id w) (k + 1)) (sym n)
            (all_set (λ j d. (k : ℕ) (xs : List (Made E)) → get_elem? d.joined k ≡ some xs → FollowsAmong (length views) (k + 1) xs current' × IsSpent (set views id w) (k + 1)) views id w
            gathers
            (λ j d _ e' k xs e. let q = r.gathered j d e' k xs e in (grown (k + 1) xs (spent_apart views id v (k + 1) at live q.1) q.0, spent_stays views id v w (k + 1) at live q.1)));
        slot = slot;
      }

  -- the same where the seat has dealt and gathered no more
  pub moved : (words : List ℕ) (homes : List (Option (rattle.Option V))) (views : List (View E)) (r : KeptOf entries words homes views) (id : ℕ) (v w : View E)
      → get_elem? views id ≡ some v → IsLive v.stage → w.dealt ≡ v.dealt → w.joined ≡ v.joined
      → (words' : List ℕ) (homes' : List (Option (rattle.Option V))) (current' : List (Made E)) (given' passed' : ℕ)
      → words' ≡ wrap given' ∷ wrap passed' ∷ length current' ∷ []
      → passed' + (total views + turns_in w.stage) ≡ given' + turns_in v.stage
      → Fits entries given' passed' current' homes' (length views) id w w.stage
      → ((j : ℕ) (d : View E) → j ≢ id → get_elem? views j ≡ some d → Fits entries r.given r.passed r.current homes (length views) j d d.stage → Fits entries given' passed' current' homes' (length views) j d d.stage)
      → ((k : ℕ) (d : View E) (t : ℕ) → k ≢ id → get_elem? views k ≡ some d → HasTurn t w.stage → HasTurn t d.stage → ⊥)
      → ((j : ℕ) (xs : List (Made E)) → j ≢ id → FollowsAmong (length views) j xs r.current → FollowsAmong (length views) j xs current')
      → Slot current' passed' homes' (set views id w)
      → KeptOf entries words' homes' (set views id w)
  moved words homes views r id v w at live same_dealt same_joined words' homes' current' given' passed' words_are counted mine others turns grown slot =
      changed words homes views r id v w at live words' homes' current' given' passed' words_are counted mine others turns grown slot
      (λ some. let q = r.dealer id v at (omega arith) in (q.0, same_dealt ∙ q.1))
      (λ k xs e. let q = r.gathered id v at k xs (ap (λ (l : List (List (Made E))). get_elem? l k) (sym same_joined) ∙ e) in (grown (k + 1) xs (spent_apart views id v (k + 1) at live q.1) q.0, spent_stays views id v w (k + 1) at live q.1))

  pub slot_stays : (current : List (Made E)) (passed : ℕ) (homes : List (Option (rattle.Option V))) (views : List (View E)) (id : ℕ) (v w : View E) → get_elem? views id ≡ some v → (v.stage ≡ Opened passed → ⊥)
      → Slot current passed homes views → Slot current passed homes (set views id w)
  slot_stays current passed homes views id v w at closed (inl x) = inl x
  slot_stays current passed homes views id v w at closed (inr h) = let out = h.0 in let j : ℕ = h.1.0 in let u : View E = h.1.1 in let e = h.1.2 in let is = h.1.3 in inr (
    out,
    (
      j,
      u,
      dite (ℕ_discrete j id)
          (λ same. absurd (closed (ap (λ (z : View E). z.stage) (some-injective v u (sym at ∙ (ap (get_elem? views) (sym same) ∙ e))) ∙ is)))
          (λ other. set_else views id j w other ∙ e),
      is,
    ),
  )

  -- only one seat has the slot
  pub alone : (words : List ℕ) (homes : List (Option (rattle.Option V))) (views : List (View E)) (r : KeptOf entries words homes views) (id t : ℕ) (v : View E) → get_elem? views id ≡ some v → v.stage ≡ Opened t → t ≡ r.passed
      → (j : ℕ) (d : View E) (u : ℕ) → j ≢ id → get_elem? views j ≡ some d → d.stage ≡ Opened u → ⊥
  alone words homes views r id t v at stage served j d u other e opened =
      let f = subst (Fits entries r.given r.passed r.current homes (length views) j d) opened (r.each j d e) in
      other (r.apart j d e id v t at (subst (HasTurn t) (sym opened) (served ∙ sym f.2)) (subst (HasTurn t) (sym stage) refl))
