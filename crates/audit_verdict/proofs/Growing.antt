-- A history whose admissions come first grows by the entry of what is due.
use Rattle.std.specs.Prelude.{◌≡◌, ◌+◌, ◌<◌, ◌≤◌, ℕ, suc, Bool, List, [], ◌∷◌, ◌++◌, map, length, min, Option, Some, None, option_map, slice_get}
use Rattle.std.proofs.Common.{refl, sym, ap, subst, ◌∙◌, arith, inl, inr}
use Rattle.std.proofs.lemmas.Bool.{cases_lt}
use Rattle.std.proofs.lemmas.Option.{none-some, same_Some, slice_get_within}
use Rattle.def_history.specs.Cores.{Ground, machine, session_over, entries_over, updates_after, IsLegalOver, effect_after, grown}
use Rattle.def_history.specs.PlainEntries.{PlainEntry, WasAdmitted, plain_entry, entry_kept}
use Rattle.def_machine.specs.Bounds.{admissions_in, admissions_of}
use Rattle.def_machine.specs.Effects.{Effect, Entry, Admitted, Stepped, Delivered, Answered, Withdrew, Event, Admits, admit_effect, may_step, may_deliver, may_answer, may_withdraw, step_effect, deliver_effect, answer_effect, withdraw_effect, where_allowed}
use Rattle.def_machine.specs.History.{HistoryLaw}
use Rattle.def_machine.specs.Histories.{event_of}
use Rattle.def_machine.specs.Updates.{Submission, Update}
use Rattle.def_machine.proofs.Basics.{last_is, length_more}
use Rattle.def_machine.proofs.Local.{pushed_same}
use Rattle.def_machine.proofs.Places.{allowed_is}
use Rattle.def_chase.specs.Repository.{IsRepository}
use Rattle.audit_replay.specs.Replays.{IsReplayOf}
use Rattle.audit_replay.specs.declared.replays.Replay.{Replay}
use Rattle.audit_claims.specs.Told.{Told, Admission, Step, Delivery, Answer, Withdrawal}
use Rattle.audit_claims.specs.Claimed.{told_by}
use Rattle.audit_verdict.specs.Judging.{Replays}
use Rattle.audit_claims.specs.Verdicts.{AdmitsFirst, IsDue, IsTurn, event_told}

-- ---- one more at the end

same_end : {A : Type 0} (xs : List A) (x y : A) → xs ++ x ∷ [] ≡ xs ++ y ∷ [] → x ≡ y
same_end xs x y e = same_Some x y (sym (last_is xs x) ∙ ap (λ zs. slice_get zs (length xs)) e ∙ last_is xs y)

module _ (g : Ground) where
  -- how many of the entries are admissions
  abbrev admissions : List PlainEntry → ℕ
  admissions H = admissions_in (entries_over g H)

  abbrev is_admission : PlainEntry → ℕ
  is_admission x = admissions_of (entry_kept g.rules g.budget x)

  admissions_more : (H : List PlainEntry) (x : PlainEntry) → admissions (H ++ x ∷ []) ≡ admissions H + is_admission x
  admissions_more [] x = omega arith
  admissions_more (h ∷ H) x = let more = admissions_more H x in omega (arith, more)

  -- As many updates are there as were admitted.
  admitted_are : HistoryLaw (machine g) → IsRepository g.base → (H : List PlainEntry) → IsLegalOver g H → admissions H ≡ length (updates_after g H)
  admitted_are law sorted H legal = (law g.settings (session_over g) (map event_of (entries_over g H)) (record { updates = updates_after g H; entries = entries_over g H }) sorted legal).admissions

  plain_admission : (e : Entry (machine g)) → is_admission (plain_entry g.rules g.budget e) ≡ admissions_of e
  plain_admission (Admitted i) = refl
  plain_admission (Stepped e) = refl
  plain_admission (Delivered i s) = refl
  plain_admission (Answered i c s) = refl
  plain_admission (Withdrew i cs n) = refl

  -- the effect whose entry is the one that the entries have grown by
  record Made (H : List PlainEntry) (e : Event (machine g)) (x : PlainEntry) : Type 0 where
    made : Effect (machine g)
    is : effect_after g H e ≡ Some made
    entry : plain_entry g.rules g.budget made.entry ≡ x

  made_by : (H : List PlainEntry) (e : Event (machine g)) (x : PlainEntry) → grown g H e ≡ Some (H ++ x ∷ []) → Made H e x
  made_by H e x = by (effect_after g H e) refl
    where
      by : (o : Option (Effect (machine g))) → effect_after g H e ≡ o → option_map (λ y. H ++ plain_entry g.rules g.budget y.entry ∷ []) o ≡ Some (H ++ x ∷ []) → Made H e x
      by None is some = absurd (none-some (H ++ x ∷ []) some)
      by (Some y) is some = record { made = y; is = is; entry = same_end H (plain_entry g.rules g.budget y.entry) x (same_Some (H ++ plain_entry g.rules g.budget y.entry ∷ []) (H ++ x ∷ []) some) }

  -- no event but an admission admits
  others : (us : List (Update (machine g))) (i : ℕ) (allowed : ℕ → Update (machine g) → Bool) (f : ℕ → Update (machine g) → Effect (machine g)) (y : Effect (machine g))
      → ((k : ℕ) (u : Update (machine g)) → admissions_of (f k u).entry ≡ 0) → where_allowed us i allowed f ≡ Some y → admissions_of y.entry ≡ 0
  others us i allowed f y none done = let at = allowed_is us i allowed f y done in ap (λ (z : Effect (machine g)). admissions_of z.entry) (sym at.made) ∙ none at.place at.item

  no_admission : (H : List PlainEntry) (e : Told) → length g.requests ≤ length H → IsDue g H e → (y : Effect (machine g)) → effect_after g H (event_told g e) ≡ Some y → admissions_of y.entry ≡ 0
  no_admission H (Admission u) whole due y done = absurd (omega (arith, due.0))
  no_admission H (Step u) whole due y done = others (updates_after g H) u (may_step (machine g) g.settings (updates_after g H)) (step_effect (machine g) g.settings (session_over g) (updates_after g H)) y (λ k v. refl) done
  no_admission H (Delivery u) whole due y done = others (updates_after g H) u (may_deliver (machine g) g.settings (updates_after g H)) (deliver_effect (machine g) g.settings (updates_after g H)) y (λ k v. refl) done
  no_admission H (Answer u c) whole due y done = others (updates_after g H) u (may_answer (machine g) g.settings (updates_after g H) c) (answer_effect (machine g) g.settings (updates_after g H) c) y (λ k v. refl) done
  no_admission H (Withdrawal u) whole due y done = others (updates_after g H) u (may_withdraw (machine g) (updates_after g H)) (withdraw_effect (machine g) g.settings (session_over g) (updates_after g H)) y (λ k v. refl) done

  -- an admission takes the next number
  admission : (H : List PlainEntry) (y : Effect (machine g)) → effect_after g H Admits ≡ Some y → y.entry ≡ Admitted (suc (length (updates_after g H)))
  admission H y = by (slice_get (session_over g).submissions (length (updates_after g H)))
    where
      by : (o : Option (Submission (machine g))) → option_map (admit_effect (machine g) (updates_after g H)) o ≡ Some y → y.entry ≡ Admitted (suc (length (updates_after g H)))
      by None done = absurd (none-some y done)
      by (Some s) done = ap (λ (z : Effect (machine g)). z.entry) (sym (same_Some (admit_effect (machine g) (updates_after g H) s) y done))

  -- ---- what an entry tells

  -- the event that an entry of the machine tells
  abbrev told_of : Entry (machine g) → Told
  told_of (Admitted i) = Admission i
  told_of (Stepped e) = Step e.update
  told_of (Delivered i s) = Delivery i
  told_of (Answered i c s) = Answer i c
  told_of (Withdrew i cs n) = Withdrawal i

  plain_told : (e : Entry (machine g)) → told_by (plain_entry g.rules g.budget e) ≡ told_of e
  plain_told (Admitted i) = refl
  plain_told (Stepped e) = refl
  plain_told (Delivered i s) = refl
  plain_told (Answered i c s) = refl
  plain_told (Withdrew i cs n) = refl

  -- where something is done at an update, its entry tells that
  at_update : (us : List (Update (machine g))) (i : ℕ) (allowed : ℕ → Update (machine g) → Bool) (f : ℕ → Update (machine g) → Effect (machine g)) (y : Effect (machine g)) (told : ℕ → Told)
      → ((k : ℕ) (u : Update (machine g)) → told_of (f k u).entry ≡ told (suc k)) → where_allowed us i allowed f ≡ Some y → told_of y.entry ≡ told i
  at_update us i allowed f y told each done =
      let at = allowed_is us i allowed f y done in
      ap (λ (z : Effect (machine g)). told_of z.entry) (sym at.made) ∙ each at.place at.item ∙ ap told (sym at.number)

  -- the effect of an event that is due tells the event, where as many updates are admitted as there are entries, up to all
  effect_tells : (H : List PlainEntry) (e : Told) → length (updates_after g H) ≡ min (length H) (length g.requests) → IsDue g H e → (y : Effect (machine g))
      → effect_after g H (event_told g e) ≡ Some y → told_of y.entry ≡ e
  effect_tells H (Admission u) many due y done =
      let here : length (updates_after g H) ≡ length H = omega (arith, many, due.0) in
      ap told_of (admission H y done) ∙ ap (λ n. Admission (suc n)) here ∙ ap Admission (sym due.1)
  effect_tells H (Step u) many due y done = at_update (updates_after g H) u (may_step (machine g) g.settings (updates_after g H)) (step_effect (machine g) g.settings (session_over g) (updates_after g H)) y Step (λ k v. refl) done
  effect_tells H (Delivery u) many due y done = at_update (updates_after g H) u (may_deliver (machine g) g.settings (updates_after g H)) (deliver_effect (machine g) g.settings (updates_after g H)) y Delivery (λ k v. refl) done
  effect_tells H (Answer u c) many due y done = at_update (updates_after g H) u (may_answer (machine g) g.settings (updates_after g H) c) (answer_effect (machine g) g.settings (updates_after g H) c) y (λ n. Answer n c) (λ k v. refl) done
  effect_tells H (Withdrawal u) many due y done = at_update (updates_after g H) u (may_withdraw (machine g) (updates_after g H)) (withdraw_effect (machine g) g.settings (session_over g) (updates_after g H)) y Withdrawal (λ k v. refl) done

  -- the entry by which the entries have grown tells the event
  pub entry_tells : (H : List PlainEntry) (e : Told) (x : PlainEntry) → length (updates_after g H) ≡ min (length H) (length g.requests) → IsDue g H e
      → grown g H (event_told g e) ≡ Some (H ++ x ∷ []) → told_by x ≡ e
  entry_tells H e x many due more =
      let made = made_by H (event_told g e) x more in
      ap told_by (sym made.entry) ∙ plain_told made.made.entry ∙ effect_tells H e many due made.made made.is

  -- ---- what comes first

  -- the place of an entry in a history with one more
  first_more : (H : List PlainEntry) (x : PlainEntry) → AdmitsFirst g H → IsTurn g (length H) (told_by x) → AdmitsFirst g (H ++ x ∷ [])
  first_more H x first turn k e there = elim (cases_lt k (length H)) [
    | inl before ↦ first k e (sym (pushed_same H (x ∷ []) k before) ∙ there)
    | inr past ↦
        let within : k < length (H ++ x ∷ []) = slice_get_within (H ++ x ∷ []) k e there in
        let last : k ≡ length H = omega (arith, within, length_more H x, past) in
        let is : x ≡ e = same_Some x e (sym (last_is H x) ∙ ap (slice_get (H ++ x ∷ [])) (sym last) ∙ there) in
        subst (λ n. IsTurn g n (told_by e)) (sym last) (subst (λ y. IsTurn g (length H) (told_by y)) is turn)
  ]

  -- ---- the whole

  module _ (law : HistoryLaw (machine g)) (H : List PlainEntry) (old new : Replay) (x : PlainEntry) where
    -- how the updates that are admitted go on
    admitted_more : (stands : Replays g H old) → IsReplayOf g (H ++ x ∷ []) new → length (updates_after g (H ++ x ∷ [])) ≡ length (updates_after g H) + is_admission x
    admitted_more stands after =
        let before = admitted_are law stands.replay.sorted H stands.history.legal in
        let later = admitted_are law after.sorted (H ++ x ∷ []) after.left.legal in
        omega (arith, before, later, admissions_more H x)

    grows_on : (e : Told) → Replays g H old → length g.requests ≤ length H → IsDue g H e → grown g H (event_told g e) ≡ Some (H ++ x ∷ []) → IsReplayOf g (H ++ x ∷ []) new
        → Replays g (H ++ x ∷ []) new
    grows_on e stands whole due more after =
        let made = made_by H (event_told g e) x more in
        let none : is_admission x ≡ 0 = ap is_admission (sym made.entry) ∙ plain_admission made.made.entry ∙ no_admission H e whole due made.made made.is in
        record {
          history = record { legal = after.left.legal; first = first_more H x stands.history.first (subst (IsDue g H) (sym (entry_tells H e x stands.admitted due more)) due) };
          admitted = omega (arith, admitted_more stands after, none, stands.admitted, length_more H x, whole);
          replay = after;
        }

    pub grows : (e : Told) → Replays g H old → IsDue g H e → grown g H (event_told g e) ≡ Some (H ++ x ∷ []) → IsReplayOf g (H ++ x ∷ []) new → Replays g (H ++ x ∷ []) new
    grows (Admission u) stands due more after =
        let made = made_by H Admits x more in
        let here : length (updates_after g H) ≡ length H = omega (arith, stands.admitted, due.0) in
        let is : made.made.entry ≡ Admitted (suc (length H)) = admission H made.made made.is ∙ ap (λ n. Admitted (suc n)) here in
        let entry : x ≡ WasAdmitted (suc (length H)) = sym made.entry ∙ ap (plain_entry g.rules g.budget) is in
        let one : is_admission x ≡ 1 = ap is_admission entry in
        record {
          history = record { legal = after.left.legal; first = first_more H x stands.history.first (subst (IsDue g H) (sym (entry_tells H (Admission u) x stands.admitted due more)) due) };
          admitted = omega (arith, admitted_more stands after, here, one, length_more H x, due.0);
          replay = after;
        }
    grows (Step u) stands due more after = grows_on (Step u) stands due due more after
    grows (Delivery u) stands due more after = grows_on (Delivery u) stands due due more after
    grows (Answer u c) stands due more after = grows_on (Answer u c) stands due due more after
    grows (Withdrawal u) stands due more after = grows_on (Withdrawal u) stands due due more after
