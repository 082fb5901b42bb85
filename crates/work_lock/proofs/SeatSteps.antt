-- Splitting a seat off the first, and joining one to it, keep the rule.
use Rattle.std.proofs.Common.{◌≡◌, inl, inr, ⊎_elim, ℕ, ◌+◌, ◌<◌, List, [], ◌∷◌, ◌++◌, length, set, sym, refl, ap, ◌∙◌, subst, arith, length-set, length-append}
use Rattle.std.specs.declared.option.Option as rattle
use mathlib.Core.Option.{Option, none, some, some-ne-none}
use lib.ListN.{get_elem?}
use Rattle.def_record.specs.declared.made.Made.{Made}
use Rattle.work_lock.specs.declared.view.View.{View}
use Rattle.work_lock.specs.declared.view.Stage.{Stage}
use Rattle.work_lock.specs.declared.view.Stage.TheVariants.{Resting, Waiting, Opened, Spent}
use Rattle.atomic_table.specs.Table.{State, Splits, Joins}
use Rattle.atomic_table.proofs.Lists.{set_here, set_else, at_longer}
use Rattle.work_lock.specs.Rule.{HasTurn, turns_in, IsSpent, Fits, KeptOf, Kept}
use Rattle.def_record.specs.Makers.{FollowsAmong}
use Rattle.work_lock.specs.Steps.{dealer, dealt, both_of, spent_view}
use Rattle.work_lock.proofs.Lists.{within, at_end, set_comm, all_set}
use Rattle.work_lock.proofs.Totals.{total_set, total_snoc}
use Rattle.work_lock.proofs.Histories.{follows_dealt, follows_new}
use Rattle.work_lock.proofs.Views.{IsLive, IsOpened, spent_stays, changed, slot_stays}

module _ {E V : Type 0} (entries : V → List (Made E)) where
  abbrev Rule : State (rattle.Option V) (View E) → Type 0
  Rule = Kept entries

  spent_longer : (vs : List (View E)) (b : View E) (k : ℕ) → IsSpent vs k → IsSpent (vs ++ b ∷ []) k
  spent_longer vs b k h = (h.0, at_longer vs (b ∷ []) k h.0 h.1, h.2)

  -- where one seat's view changes and its stage does not, no two seats have one turn
  old_apart : (words : List ℕ) (homes : List (Option (rattle.Option V))) (views : List (View E)) (r : KeptOf entries words homes views) (id : ℕ) (v w : View E) → get_elem? views id ≡ some v → w.stage ≡ v.stage
      → (j : ℕ) (d : View E) → get_elem? (set views id w) j ≡ some d → (k : ℕ) (u : View E) (t : ℕ) → get_elem? (set views id w) k ≡ some u → HasTurn t d.stage → HasTurn t u.stage → j ≡ k
  old_apart words homes views r id v w at same j d e k u t e' has had =
      let a = all_set (λ j d. (z : View E) × (get_elem? views j ≡ some z) × (z.stage ≡ d.stage)) views id w (v, at, sym same) (λ j d _ e. (d, e, refl)) j d e in
      let b = all_set (λ j d. (z : View E) × (get_elem? views j ≡ some z) × (z.stage ≡ d.stage)) views id w (v, at, sym same) (λ j d _ e. (d, e, refl)) k u e' in
      r.apart j a.0 a.1 k b.0 t b.1 (subst (HasTurn t) (sym a.2) has) (subst (HasTurn t) (sym b.2) had)

  dealt_fits : (given passed : ℕ) (current : List (Made E)) (homes : List (Option (rattle.Option V))) (n j : ℕ) (v : View E) (st : Stage) → Fits entries given passed current homes n j v st → Fits entries given passed current homes (n + 1) j v st
  dealt_fits given passed current homes n j v Spent f = tt
  dealt_fits given passed current homes n j v Resting f = (f.0, follows_dealt n j v.seen current f.1)
  dealt_fits given passed current homes n j v (Waiting t) f = (f.0, follows_dealt n j v.seen current f.1, f.2, f.3)
  dealt_fits given passed current homes n j v (Opened t) f = f

  -- the seat that deals makes one seat more
  pub deals : (id : ℕ) (v : View E) → v.stage ≡ Resting → 0 < v.dealt → v.dealt < 16 → Splits Rule id v (dealer v) (dealt v)
  deals id v stage some_dealt room s r at =
      let g : ℕ = r.given in let p : ℕ = r.passed in let l : View E = dealer v in let b : View E = dealt v in let n : ℕ = length s.views in
      let q = r.dealer id v at some_dealt in
      let mine = subst (Fits entries g p r.current s.homes n id v) stage (r.each id v at) in
      let vs : List (View E) = set s.views id l in
      let same : length vs ≡ n = length-set s.views id l in
      let many : length (vs ++ b ∷ []) ≡ n + 1 = length-append vs (b ∷ []) ∙ ap (λ (k : ℕ). k + 1) same in
      let sum = total_set s.views id v l at in let longer = total_snoc vs b in let counted = r.counted in
      let q1 : v.dealt ≡ n = q.1 in
      let K : ℕ → View E → Type 0 = λ j d. Fits entries g p r.current s.homes (n + 1) j d d.stage in record {
        current = r.current;
        given = g;
        passed = p;
        words_are = r.words_are;
        few = omega arith;
        counted = omega arith;
        each = subst (λ (m : ℕ). (j : ℕ) (d : View E) → get_elem? (vs ++ b ∷ []) j ≡ some d → Fits entries g p r.current s.homes m j d d.stage) (sym many)
            (λ j d e. ⊎_elim
            (λ h. all_set K s.views id l (subst (Fits entries g p r.current s.homes (n + 1) id l) (sym stage) (mine.0, follows_dealt n id v.seen r.current mine.1))
            (λ j d other e. dealt_fits g p r.current s.homes n j d d.stage (r.each j d e)) j d h)
            (λ (h : (j ≡ length vs) × (b ≡ d)). let here : n ≡ j = sym same ∙ sym h.0 in
            subst (λ (z : ℕ × View E). K z.0 z.1) (λ i. (here i, h.1 i)) (q1, follows_new n id v.seen r.current mine.1))
            (at_end vs b d j e));
        apart = λ j d e k u t e' has had. ⊎_elim
            (λ h. ⊎_elim
            (λ h'. old_apart s.words s.homes s.views r id v l at refl j d h k u t h' has had)
            (λ (h' : (k ≡ length vs) × (b ≡ u)). absurd (subst (λ (z : View E). HasTurn t z.stage) (sym h'.1) had))
            (at_end vs b u k e'))
            (λ (h : (j ≡ length vs) × (b ≡ d)). absurd (subst (λ (z : View E). HasTurn t z.stage) (sym h.1) has))
            (at_end vs b d j e);
        dealer = λ j d e some. ⊎_elim
            (λ h. all_set (λ j d. 0 < d.dealt → (j ≡ 0) × (d.dealt ≡ length (vs ++ b ∷ []))) s.views id l
            (λ _. (q.0, ap (λ (k : ℕ). k + 1) q1 ∙ sym many))
            (λ j d other e some. absurd (other ((r.dealer j d e some).0 ∙ sym q.0))) j d h some)
            (λ (h : (j ≡ length vs) × (b ≡ d)). absurd (let z : 0 < b.dealt = subst (λ (z : View E). 0 < z.dealt) (sym h.1) some in omega arith))
            (at_end vs b d j e);
        gathered = subst (λ (m : ℕ). (j : ℕ) (d : View E) → get_elem? (vs ++ b ∷ []) j ≡ some d → (k : ℕ) (xs : List (Made E)) → get_elem? d.joined k ≡ some xs → FollowsAmong m (k + 1) xs r.current × IsSpent (vs ++ b ∷ []) (k + 1)) (sym many)
            (λ j d e k xs there. ⊎_elim
            (λ h. all_set (λ j d. (k : ℕ) (xs : List (Made E)) → get_elem? d.joined k ≡ some xs → FollowsAmong (n + 1) (k + 1) xs r.current × IsSpent (vs ++ b ∷ []) (k + 1)) s.views id l
            (λ k xs there. let m = r.gathered id v at k xs there in (follows_dealt n (k + 1) xs r.current m.0, spent_longer vs b (k + 1) (spent_stays s.views id v l (k + 1) at (subst IsLive (sym stage) tt) m.1)))
            (λ j d other e k xs there. let m = r.gathered j d e k xs there in (follows_dealt n (k + 1) xs r.current m.0, spent_longer vs b (k + 1) (spent_stays s.views id v l (k + 1) at (subst IsLive (sym stage) tt) m.1)))
            j d h k xs there)
            (λ (h : (j ≡ length vs) × (b ≡ d)). absurd (some-ne-none xs (sym (ap (λ (z : View E). get_elem? z.joined k) h.1 ∙ there))))
            (at_end vs b d j e));
        slot = ⊎_elim (λ h. inl h)
            (λ (h : (s.homes ≡ none ∷ []) × ((j : ℕ) × (u : View E) × (get_elem? vs j ≡ some u) × (u.stage ≡ Opened p))). inr (h.0, (h.1.0, h.1.1, at_longer vs (b ∷ []) h.1.0 h.1.1 h.1.2, h.1.3)))
            (slot_stays entries r.current p s.homes s.views id v l at (λ is. subst IsOpened (sym (sym stage ∙ is)) tt) r.slot);
      }

  -- the dealer takes in what the next seat has seen, and that seat is spent
  pub gathers : (id : ℕ) (v : View E) (other : ℕ) (w : View E) → v.stage ≡ Resting → w.stage ≡ Resting → w.number ≡ length v.joined + 1 → Joins Rule id v other w (both_of v w) spent_view
  unfolding changed
  gathers id v other w stage w_stage next s r at apart there' =
      let g : ℕ = r.given in let p : ℕ = r.passed in let b : View E = both_of v w in let z : View E = spent_view in
      let there : get_elem? s.views other ≡ some w = sym (set_else s.views id other b apart) ∙ there' in
      let its = subst (Fits entries g p r.current s.homes (length s.views) other w) w_stage (r.each other w there) in
      let none_w : turns_in w.stage ≡ 0 = ap turns_in w_stage in let sum = r.counted in
      let first : KeptOf entries s.words s.homes (set s.views other z) = changed entries s.words s.homes s.views r other w z there (subst IsLive (sym w_stage) tt) s.words s.homes r.current g p r.words_are (omega arith) tt
      (λ j d _ e f. f)
      (λ k u t _ e has had. absurd has)
      (λ j xs _ f. f)
      (slot_stays entries r.current p s.homes s.views other w z there (λ is. subst IsOpened (sym (sym w_stage ∙ is)) tt) r.slot)
      (λ some. absurd (omega arith))
      (λ k xs e. absurd (some-ne-none xs (sym e))) in
      let m : List (View E) = set s.views other z in
      let at' : get_elem? m id ≡ some v = set_else s.views other id z (λ e. apart (sym e)) ∙ at in
      let sum' = first.counted in
      let second : KeptOf entries s.words s.homes (set m id b) = changed entries s.words s.homes m first id v b at' (subst IsLive (sym stage) tt) s.words s.homes first.current first.given first.passed first.words_are (omega arith)
      (subst (Fits entries first.given first.passed first.current s.homes (length m) id b) (sym stage)
      (subst (Fits entries first.given first.passed first.current s.homes (length m) id v) stage (first.each id v at')))
      (λ j d _ e f. f)
      (λ k u t other' e has had. other' (first.apart k u e id v t at' had has))
      (λ j xs _ f. f)
      (slot_stays entries first.current first.passed s.homes m id v b at' (λ is. subst IsOpened (sym (sym stage ∙ is)) tt) first.slot)
      (λ some. first.dealer id v at' some)
      (λ k xs e. ⊎_elim
      (λ h. let q = first.gathered id v at' k xs h in (q.0, spent_stays m id v b (k + 1) at' (subst IsLive (sym stage) tt) q.1))
      (λ (h : (k ≡ length v.joined) × (w.seen ≡ xs)).
      let place : other ≡ k + 1 = sym its.0 ∙ (next ∙ ap (λ (n : ℕ). n + 1) (sym h.0)) in (
        subst (λ (y : ℕ × ℕ × List (Made E)). FollowsAmong y.0 y.1 y.2 r.current) (λ i. (sym (length-set s.views other z) i, place i, h.1 i)) its.1,
        spent_stays m id v b (k + 1) at' (subst IsLive (sym stage) tt) (subst (IsSpent m) place (z, set_here s.views other z (within s.views other w there), refl)),
      ))
      (at_end v.joined w.seen xs k e)) in
      subst (KeptOf entries s.words s.homes) (set_comm s.views other id z b apart) second
