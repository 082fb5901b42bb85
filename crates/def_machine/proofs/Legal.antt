-- The entries of a history record its events, so they are a legal history; there are as many updates as admissions.
use Rattle.std.proofs.Common.{◌≡◌, ℕ, zero, suc, ◌+◌, ap, sym, refl, subst, ◌∙◌, List, [], ◌∷◌, ◌++◌, append_assoc, append-nil, map, take, drop, length, arith, Some}
use Rattle.std.specs.Prelude.{slice_get}
use Rattle.std.proofs.lemmas.Option.{same_Some, none-some, option_and_then_some}
use Rattle.def_machine.proofs.Basics.{some_of, length_more}
use Rattle.def_machine.specs.Machine.{Machine, Laws}
use Rattle.def_machine.specs.Updates.{Update, Session, Settings, below, committed}
use Rattle.def_machine.specs.Cascade.{Cause, readers, restarted}
use Rattle.def_machine.specs.Steps.{stepped}
use Rattle.def_machine.specs.Effects.{Event, Admits, Steps, Delivers, Answers, Withdraws, Entry, Effect, causes_of_loss, causes_of_step, put, withdrawn_now, delivered, answered, admitted, step_effect, withdraw_effect, deliver_effect, answer_effect, admit_effect, may_step, may_deliver, may_answer, may_withdraw, effect}
use Rattle.def_machine.specs.Histories.{Log, empty_log, with_entry, after, event_of, IsLegal}
use Rattle.def_machine.specs.Bounds.{admissions_of, admissions_in}
use Rattle.def_machine.proofs.Places.{allowed_is}

length_restarted : (M : Machine) (ns : List ℕ) (n : ℕ) (us : List (Update M)) → length (restarted M ns n us) ≡ length us
length_restarted M ns n [] = refl
length_restarted M ns n (u ∷ us) = ap suc (length_restarted M ns (suc n) us)

length_put : {A : Type 0} (us : List A) (k : ℕ) (u v : A) (vs : List A) → slice_get us k ≡ Some u → length vs ≡ length (drop (suc k) us) → length (take k us ++ v ∷ vs) ≡ length us
length_put [] k u v vs h e = absurd (none-some u h)
length_put (w ∷ us) zero u v vs h e = ap suc e
length_put (w ∷ us) (suc k) u v vs h e = ap suc (length_put us k u v vs h e)

length_of_put : (M : Machine) (us : List (Update M)) (k : ℕ) (u v : Update M) (causes : List (Cause M)) → slice_get us k ≡ Some u → length (put M us k v causes) ≡ length us
length_of_put M us k u v causes h = length_put us k u v (restarted M (readers causes) (suc (suc k)) (drop (suc k) us)) h (length_restarted M (readers causes) (suc (suc k)) (drop (suc k) us))

pub events_join : (M : Machine) (es : List (Entry M)) (e : Entry M) → map event_of (es ++ e ∷ []) ≡ map event_of es ++ event_of e ∷ []
events_join M [] e = refl
events_join M (d ∷ es) e = ap (λ xs. event_of d ∷ xs) (events_join M es e)

admissions_more : (M : Machine) (es : List (Entry M)) (e : Entry M) → admissions_in (es ++ e ∷ []) ≡ admissions_in es + admissions_of e
admissions_more M [] e = omega arith
admissions_more M (d ∷ es) e = omega (arith, admissions_more M es e)

module _ (M : Machine) (L : Laws M) (s : Settings) (S : Session M) where
  -- an effect's entry records its event, and an admission alone makes the list longer
  abbrev Records : List (Update M) → Event M → Effect M → Type 0
  Records us e x = (event_of x.entry ≡ e) × (length x.updates ≡ length us + admissions_of x.entry)

  pub effect_records : (us : List (Update M)) (e : Event M) (x : Effect M) → effect M s S us e ≡ Some x → Records us e x
  effect_records us Admits x h =
      let p = some_of (admit_effect M us) (slice_get S.submissions (length us)) x h in
      subst (λ (y : Effect M). Records us Admits y) p.2 (refl, omega (arith, length_more us (admitted M (suc (length us)) p.0)))
  effect_records us (Steps i) x h =
      let a = allowed_is us i (may_step M s us) (step_effect M s S us) x h in
      let D : M.Repository = below M S.base us a.place in
      let v : Update M = stepped M D a.item in
      subst (λ (y : Effect M). Records us (Steps i) y) a.made
      (ap (λ n. Steps n) (sym a.number), omega (arith, length_of_put M us a.place a.item v (causes_of_step M s.deps (committed M us) (suc a.place) D a.item v (drop (suc a.place) us)) a.found))
  effect_records us (Delivers i) x h =
      let a = allowed_is us i (may_deliver M s us) (deliver_effect M s us) x h in
      subst (λ (y : Effect M). Records us (Delivers i) y) a.made
      (ap (λ n. Delivers n) (sym a.number), omega (arith, length_put us a.place a.item (delivered M a.item) (drop (suc a.place) us) a.found refl))
  effect_records us (Answers i c) x h =
      let a = allowed_is us i (may_answer M s us c) (answer_effect M s us c) x h in
      subst (λ (y : Effect M). Records us (Answers i c) y) a.made
      (ap (λ n. Answers n c) (sym a.number), omega (arith, length_put us a.place a.item (answered M a.item c) (drop (suc a.place) us) a.found refl))
  effect_records us (Withdraws i) x h =
      let a = allowed_is us i (may_withdraw M us) (withdraw_effect M s S us) x h in
      subst (λ (y : Effect M). Records us (Withdraws i) y) a.made
      (ap (λ n. Withdraws n) (sym a.number), omega (arith, length_of_put M us a.place a.item (withdrawn_now M a.item) (causes_of_loss M s.deps (committed M us) (suc a.place) (below M S.base us a.place) a.item (drop (suc a.place) us)) a.found))

  pub events_are : (l : Log M) (es : List (Event M)) (m : Log M) → after M s S l es ≡ Some m → map event_of m.entries ≡ map event_of l.entries ++ es
  events_are l [] m h = ap (λ (x : Log M). map event_of x.entries) (sym (same_Some _ _ h)) ∙ sym (append-nil (map event_of l.entries))
  events_are l (e ∷ es) m h =
      option_and_then_some (λ x. after M s S (with_entry M l.entries x) es) (effect M s S l.updates e) m h
      (λ x f g. events_are (with_entry M l.entries x) es m g
      ∙ ap (λ xs. xs ++ es) (events_join M l.entries x.entry ∙ ap (λ d. map event_of l.entries ++ d ∷ []) (effect_records l.updates e x f).0)
      ∙ append_assoc (map event_of l.entries) (e ∷ []) es)

  pub admissions_are : (l : Log M) (es : List (Event M)) (m : Log M) → admissions_in l.entries ≡ length l.updates → after M s S l es ≡ Some m → admissions_in m.entries ≡ length m.updates
  admissions_are l [] m e h = subst (λ (x : Log M). admissions_in x.entries ≡ length x.updates) (same_Some _ _ h) e
  admissions_are l (e ∷ es) m a h =
      option_and_then_some (λ x. after M s S (with_entry M l.entries x) es) (effect M s S l.updates e) m h
      (λ x f g. admissions_are (with_entry M l.entries x) es m (omega (arith, a, admissions_more M l.entries x.entry, (effect_records l.updates e x f).1)) g)

  pub legal_is : (es : List (Event M)) (l : Log M) → after M s S (empty_log M) es ≡ Some l → IsLegal M s S l.entries l.updates
  legal_is es l h = ap (λ xs. after M s S (empty_log M) xs) (events_are (empty_log M) es l h) ∙ h
