-- The rule at the lock's beginning, and what it gives at the end.
use Rattle.std.proofs.Common.{◌≡◌, inl, ⊎_elim, ℕ, zero, suc, ◌+◌, ◌<◌, List, [], ◌∷◌, length, sym, refl, ap, ◌∙◌, subst, arith, add-one, Some}
use Rattle.std.specs.declared.option.Option as rattle
use mathlib.Core.Option.{Option, none, some, some-injective, some-ne-none}
use lib.ListN.{get_elem?}
use Rattle.def_record.specs.declared.made.Made.{Made}
use Rattle.work_lock.specs.declared.view.View.{View}
use Rattle.work_lock.specs.declared.view.Stage.TheVariants.{Resting, Opened}
use Rattle.atomic_table.specs.Table.{State, Final, Seen, opening}
use Rattle.work_lock.specs.Rule.{first_view, Fits, KeptOf, Kept}
use Rattle.def_record.specs.Makers.{FollowsAmong}
use Rattle.work_lock.proofs.Lists.{within, there_is, at_end}
use Rattle.work_lock.proofs.Histories.{follows_self}
use Rattle.work_lock.proofs.Views.{IsOpened}

module _ {E V : Type 0} (entries : V → List (Made E)) where
  abbrev Rule : State (rattle.Option V) (View E) → Type 0
  Rule = Kept entries

  -- the table at the start
  pub opens : (x : V) (n : ℕ) → n ≡ length (entries x) → Rule (opening (0 ∷ 0 ∷ n ∷ []) (Some x ∷ []) (first_view (entries x)))
  opens x n count = let f : View E = first_view (entries x) in
      let only : (j : ℕ) (v : View E) → get_elem? (f ∷ []) j ≡ some v → (j ≡ 0) × (f ≡ v) = λ j v e. ⊎_elim (λ h. absurd (some-ne-none v (sym h))) (λ h. h) (at_end [] f v j e) in record {
        current = entries x;
        given = 0;
        passed = 0;
        words_are = ap (λ (k : ℕ). 0 ∷ 0 ∷ k ∷ []) count;
        few = omega arith;
        counted = refl;
        each = λ j v e. let o = only j v e in subst (λ (z : ℕ × View E). Fits entries 0 0 (entries x) (some (Some x) ∷ []) 1 z.0 z.1 z.1.stage) (λ i. (sym o.0 i, o.1 i)) (refl, follows_self 1 0 (entries x));
        apart = λ j v e k w t e' has had. (only j v e).0 ∙ sym (only k w e').0;
        dealer = λ j v e some. let o = only j v e in (o.0, ap (λ (z : View E). z.dealt) (sym o.1));
        gathered = λ j v e k xs there. let o = only j v e in absurd (some-ne-none xs (sym (ap (λ (z : View E). get_elem? z.joined k) o.1 ∙ there)));
        slot = inl (x, refl, refl);
      }

  -- the dealer is at rest and every other seat is spent, so none has the slot
  at_rest : (words : List ℕ) (homes : List (Option (rattle.Option V))) (views : List (View E)) (r : KeptOf entries words homes views) (id : ℕ) (v : View E) → get_elem? views id ≡ some v → v.stage ≡ Resting → id ≡ 0 → length v.joined + 1 ≡ length views
      → (j : ℕ) (u : View E) → get_elem? views j ≡ some u → u.stage ≡ Opened r.passed → ⊥
  at_rest words homes views r id v at stage first all zero u e opened =
      let same : u ≡ v = some-injective u v (sym e ∙ (ap (get_elem? views) (sym first) ∙ at)) in
      subst IsOpened (sym opened ∙ (ap (λ (z : View E). z.stage) same ∙ stage)) tt
  at_rest words homes views r id v at stage first all (suc j) u e opened =
      let inside = within views (suc j) u e in
      let has = there_is v.joined j (omega arith) in
      let sp = (r.gathered id v at j has.0 has.1).1 in
      let here : get_elem? views (suc j) ≡ some sp.0 = ap (get_elem? views) (sym (add-one j)) ∙ sp.1 in
      let same : u ≡ sp.0 = some-injective u sp.0 (sym e ∙ here) in
      subst IsOpened (sym opened ∙ (ap (λ (z : View E). z.stage) same ∙ sp.2)) tt

  -- once the dealer has gathered every seat, the value is at home, begins with what each has seen, and goes on by entries of the others
  abbrev pub Ends : ℕ → View E → V → Type 0
  Ends n v x = FollowsAmong n 0 v.seen (entries x) × ((k : ℕ) (xs : List (Made E)) → get_elem? v.joined k ≡ some xs → FollowsAmong n (k + 1) xs (entries x))

  pub ends : (id : ℕ) (v : View E) (ws : List ℕ) (xs : List (rattle.Option V)) → v.stage ≡ Resting → 0 < v.dealt → v.dealt ≡ length v.joined + 1 → Final (Seen Rule id v) ws xs → (x : V) × (get_elem? xs 0 ≡ some (Some x)) × Ends v.dealt v x
  ends id v ws xs stage some_dealt all f =
      let s = f.0 in let r : KeptOf entries s.words s.homes s.views = f.1.0 in let at : get_elem? s.views id ≡ some v = f.1.1 in
      let q = r.dealer id v at some_dealt in
      let mine = subst (Fits entries r.given r.passed r.current s.homes (length s.views) id v) stage (r.each id v at) in
      ⊎_elim
      (λ (h : (x : V) × (s.homes ≡ some (Some x) ∷ []) × (entries x ≡ r.current)). (
        h.0,
        f.4 0 (Some h.0) (ap (λ (l : List (Option (rattle.Option V))). get_elem? l 0) h.1),
        (
          subst (λ (y : ℕ × ℕ × List (Made E)). FollowsAmong y.0 y.1 v.seen y.2) (λ i. (sym q.1 i, q.0 i, sym h.2 i)) mine.1,
          λ k ys e. subst (λ (y : ℕ × List (Made E)). FollowsAmong y.0 (k + 1) ys y.1) (λ i. (sym q.1 i, sym h.2 i)) (r.gathered id v at k ys e).0,
        ),
      ))
      (λ (h : (s.homes ≡ none ∷ []) × ((j : ℕ) × (u : View E) × (get_elem? s.views j ≡ some u) × (u.stage ≡ Opened r.passed))).
      let j : ℕ = h.1.0 in let u : View E = h.1.1 in let e = h.1.2 in
      absurd (at_rest s.words s.homes s.views r id v at stage q.0 (sym all ∙ q.1) j u e h.1.3))
      r.slot
