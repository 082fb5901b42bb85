-- Every step and every delivery lowers the work that is left.
use Rattle.std.proofs.Common.{◌≡◌, ℕ, zero, suc, ◌≤◌, ◌+◌, ap, sym, refl, subst, ◌∙◌, List, [], ◌∷◌, ◌++◌, take, drop, length, Bool, true, false, not, arith, Some}
use Rattle.std.specs.Prelude.{slice_get, if◌then◌else◌}
use Rattle.std.proofs.lemmas.Bool.{and_parts, both_ways}
use Rattle.std.proofs.lemmas.Option.{same_Some, none-some}
use Rattle.def_machine.specs.Machine.{Machine, Laws}
use Rattle.def_machine.specs.Updates.{Update, Session, Settings, below, committed}
use Rattle.def_machine.specs.Standings.{is_nil, is_pending, standing}
use Rattle.def_machine.specs.Cascade.{readers, has_number, restarted, begun_again}
use Rattle.def_machine.specs.Steps.{stepped}
use Rattle.def_machine.specs.Effects.{Steps, Delivers, Effect, causes_of_step, delivered, step_effect, deliver_effect, may_step, may_deliver, effect}
use Rattle.def_machine.specs.Histories.{empty_log}
use Rattle.def_machine.specs.Runs.{AreRuns}
use Rattle.def_machine.specs.Bounds.{AreTried, waiting}
use Rattle.def_machine.specs.Work.{work, WorkLaw}
use Rattle.def_machine.proofs.Places.{allowed_is}
use Rattle.def_machine.proofs.Events.{after_runs}
use Rattle.def_machine.proofs.Bounds.{Bounded, effect_kept, bounded_after}

waiting_restarted : (M : Machine) (ns : List ℕ) (n : ℕ) (us : List (Update M)) → waiting M (restarted M ns n us) ≡ waiting M us
waiting_restarted M ns n [] = refl
waiting_restarted M ns n (u ∷ us) = by (has_number ns n) (waiting_restarted M ns (suc n) us)
  where
    by : (b : Bool) → waiting M (restarted M ns (suc n) us) ≡ waiting M us → length (if b then begun_again M n u else u).inbox + waiting M (restarted M ns (suc n) us) ≡ length u.inbox + waiting M us
    by true h = ap (λ w. length u.inbox + w) h
    by false h = ap (λ w. length u.inbox + w) h

waiting_put : (M : Machine) (us : List (Update M)) (k : ℕ) (u v : Update M) (vs : List (Update M)) → slice_get us k ≡ Some u → waiting M (take k us ++ v ∷ vs) + (length u.inbox + waiting M (drop (suc k) us)) ≡ waiting M us + (length v.inbox + waiting M vs)
waiting_put M [] k u v vs h = absurd (none-some u h)
waiting_put M (w ∷ us) zero u v vs h = subst (λ (x : Update M). waiting M (v ∷ vs) + (length x.inbox + waiting M us) ≡ waiting M (w ∷ us) + (length v.inbox + waiting M vs)) (same_Some _ _ h) (omega arith)
waiting_put M (w ∷ us) (suc k) u v vs h = omega (arith, waiting_put M us k u v vs h)

one_less : {A : Type 0} (cs : List A) → not (is_nil cs) ≡ true → suc (length (drop 1 cs)) ≡ length cs
one_less [] h = absurd (both_ways false refl h)
one_less (c ∷ cs) h = refl

module _ (M : Machine) (L : Laws M) (s : Settings) (S : Session M) (us : List (Update M)) (r : AreRuns M S.base 1 us) (t : AreTried M s.retries (committed M us) 1 us) where
  steps_less : (i : ℕ) (x : Effect M) → effect M s S us (Steps i) ≡ Some x → suc (work M s x.updates) ≤ work M s us
  steps_less i x h =
      let a = allowed_is us i (may_step M s us) (step_effect M s S us) x h in
      let y : Effect M = step_effect M s S us a.place a.item in
      let D : M.Repository = below M S.base us a.place in
      let v : Update M = stepped M D a.item in
      let ns : List ℕ = readers (causes_of_step M s.deps (committed M us) (suc a.place) D a.item v (drop (suc a.place) us)) in
      let kept : Bounded M L s us y = effect_kept M L s S us (Steps i) y r t (h ∙ ap Some (sym a.made)) in
      subst (λ (z : Effect M). suc (work M s z.updates) ≤ work M s us) a.made
      (omega (arith, kept.1, waiting_put M us a.place a.item v (restarted M ns (suc (suc a.place)) (drop (suc a.place) us)) a.found, waiting_restarted M ns (suc (suc a.place)) (drop (suc a.place) us)))

  delivers_less : (i : ℕ) (x : Effect M) → effect M s S us (Delivers i) ≡ Some x → suc (work M s x.updates) ≤ work M s us
  delivers_less i x h =
      let a = allowed_is us i (may_deliver M s us) (deliver_effect M s us) x h in
      let y : Effect M = deliver_effect M s us a.place a.item in
      let kept : Bounded M L s us y = effect_kept M L s S us (Delivers i) y r t (h ∙ ap Some (sym a.made)) in
      subst (λ (z : Effect M). suc (work M s z.updates) ≤ work M s us) a.made
      (omega (arith, kept.1, waiting_put M us a.place a.item (delivered M a.item) (drop (suc a.place) us) a.found, one_less a.item.inbox (and_parts (is_pending (standing M s (committed M us) (suc a.place) a.item)) _ a.may).1))

pub work_law : (M : Machine) → Laws M → WorkLaw M
work_law M L s S es l z h =
    let runs : AreRuns M S.base 1 l.updates = after_runs M L s S (empty_log M) l es z tt h in
    let kept = bounded_after M L s S (empty_log M) es l z tt (tt, omega arith) h in
    record { steps = steps_less M L s S l.updates runs kept.0; delivers = delivers_less M L s S l.updates runs kept.0 }
