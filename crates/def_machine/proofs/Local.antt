-- The updates below the one that an event acts on are untouched.
use Rattle.std.proofs.Common.{◌≡◌, ℕ, zero, suc, ◌<◌, ◌≤◌, ap, refl, subst, List, [], ◌∷◌, ◌++◌, take, length, arith, Some}
use Rattle.std.specs.Prelude.{slice_get}
use Rattle.std.specs.List.{flat_map}
use Rattle.std.proofs.lemmas.Bool.{and_parts, ltb-true}
use Rattle.def_machine.specs.Machine.{Machine, Laws}
use Rattle.def_machine.specs.Updates.{Update, trail, is_over, committed}
use Rattle.def_machine.specs.Standings.{standing, is_pending}
use Rattle.def_machine.specs.Effects.{Admits, Steps, Delivers, Answers, Withdraws, Effect, step_effect, withdraw_effect, deliver_effect, answer_effect, admitted, admit_effect, may_step, may_deliver, may_answer, may_withdraw}
use Rattle.def_machine.specs.Local.{IsLocal, LocalLaw}
use Rattle.def_machine.proofs.Basics.{if_both, length_from, some_of}
use Rattle.def_machine.proofs.Standing.{ready_parts, paused_parts, pending_parts, not_over}
use Rattle.def_machine.proofs.Places.{allowed_is, taken_same, take_put, committed_below, committed_kept, committed_more}

pub pushed_same : {A : Type 0} (us vs : List A) (k : ℕ) → k < length us → slice_get (us ++ vs) k ≡ slice_get us k
pushed_same [] vs k h = absurd (omega arith)
pushed_same (u ∷ us) vs zero h = refl
pushed_same (u ∷ us) vs (suc k) h = pushed_same us vs k (omega arith)

take_more : {A : Type 0} (us vs : List A) (k : ℕ) → k ≤ length us → take k (us ++ vs) ≡ take k us
take_more us vs zero h = refl
take_more [] vs (suc k) h = absurd (omega arith)
take_more (u ∷ us) vs (suc k) h = ap (λ ws. u ∷ ws) (take_more us vs k (omega arith))

module _ (M : Machine) (L : Laws M) where
  committed_length : (us : List (Update M)) → committed M us ≤ length us
  committed_length [] = omega arith
  committed_length (u ∷ us) = if_both (λ n. n ≤ suc (length us)) (is_over M u) _ _ (λ e. omega (arith, committed_length us)) (λ e. omega arith)

  local_put : (D : M.Repository) (i k : ℕ) (us vs : List (Update M)) (u : Update M) → i ≡ suc k → slice_get us k ≡ Some u → committed M us ≤ k → IsLocal M D i us (take k us ++ vs)
  local_put D i k us vs u e h c = record {
    lower = λ j l. taken_same us vs k j (omega (arith, e)) (length_from us k u h);
    below = λ j l. ap (λ ws. M.apply D (flat_map (trail M) ws)) (take_put us vs k j (omega (arith, e)) (length_from us k u h));
    uncommitted = omega (arith, c, e);
    grows = committed_kept M us vs k c (length_from us k u h);
  }

  pub local_law : LocalLaw M
  local_law s S us Admits x h =
      let p = some_of (admit_effect M us) (slice_get S.submissions (length us)) x h in
      subst (λ (y : Effect M). IsLocal M S.base (suc (length us)) us y.updates) p.2
      record {
        lower = λ j l. pushed_same us (admitted M (suc (length us)) p.0 ∷ []) j (omega (arith, l));
        below = λ j l. ap (λ ws. M.apply S.base (flat_map (trail M) ws)) (take_more us (admitted M (suc (length us)) p.0 ∷ []) j (omega (arith, l)));
        uncommitted = omega (arith, committed_length us);
        grows = committed_more M us (admitted M (suc (length us)) p.0 ∷ []);
      }
  local_law s S us (Steps i) x h =
      let a = allowed_is us i (may_step M s us) (step_effect M s S us) x h in
      let o = ready_parts M s (committed M us) (suc a.place) a.item a.may in
      subst (λ (y : Effect M). IsLocal M S.base i us y.updates) a.made
      (local_put S.base i a.place us _ a.item a.number a.found (committed_below M us a.place a.item a.found (not_over M s (committed M us) (suc a.place) a.item o.0)))
  local_law s S us (Delivers i) x h =
      let a = allowed_is us i (may_deliver M s us) (deliver_effect M s us) x h in
      let o = pending_parts M s (committed M us) (suc a.place) a.item (and_parts (is_pending (standing M s (committed M us) (suc a.place) a.item)) _ a.may).0 in
      subst (λ (y : Effect M). IsLocal M S.base i us y.updates) a.made
      (local_put S.base i a.place us _ a.item a.number a.found (committed_below M us a.place a.item a.found (not_over M s (committed M us) (suc a.place) a.item o.0)))
  local_law s S us (Answers i c) x h =
      let a = allowed_is us i (may_answer M s us c) (answer_effect M s us c) x h in
      let o = paused_parts M s (committed M us) (suc a.place) a.item (and_parts _ _ a.may).0 in
      subst (λ (y : Effect M). IsLocal M S.base i us y.updates) a.made
      (local_put S.base i a.place us _ a.item a.number a.found (committed_below M us a.place a.item a.found (not_over M s (committed M us) (suc a.place) a.item o.0)))
  local_law s S us (Withdraws i) x h =
      let a = allowed_is us i (may_withdraw M us) (withdraw_effect M s S us) x h in
      let low : committed M us < suc a.place = ltb-true _ _ (and_parts _ _ a.may).0 in
      subst (λ (y : Effect M). IsLocal M S.base i us y.updates) a.made (local_put S.base i a.place us _ a.item a.number a.found (omega (arith, low)))
