-- The updates of a history keep what was handed in.
use Rattle.std.proofs.Common.{◌≡◌, ℕ, zero, suc, ap, sym, refl, subst, ◌∙◌, List, [], ◌∷◌, ◌++◌, append_assoc, take, drop, map, length, Bool, true, false, Some}
use Rattle.std.specs.Prelude.{if◌then◌else◌, slice_get, option_map, option_and_then}
use Rattle.std.specs.List.{list_all}
use Rattle.std.proofs.lemmas.Bool.{and_parts, both_ways}
use Rattle.std.proofs.lemmas.List.{take-append-drop}
use Rattle.std.proofs.lemmas.Option.{same_Some, none-some, option_and_then_some}
use Rattle.def_machine.specs.Machine.{Machine}
use Rattle.def_machine.specs.Updates.{Update, Submission, Session, Settings, below, committed}
use Rattle.def_machine.specs.Cascade.{readers, has_number, restarted, begun_again}
use Rattle.def_machine.specs.Steps.{stepped}
use Rattle.def_machine.specs.Effects.{Event, Admits, Steps, Delivers, Answers, Withdraws, Effect, causes_of_loss, causes_of_step, withdrawn_now, delivered, answered, step_effect, withdraw_effect, deliver_effect, answer_effect, admitted, admit_effect, may_step, may_deliver, may_answer, may_withdraw, effect}
use Rattle.def_machine.specs.Histories.{Log, empty_log, with_entry, after}
use Rattle.def_machine.specs.Serial.{all_turns, session_turns}
use Rattle.def_machine.specs.Recorded.{is_recorded, by_first_attempt, RecordedLaw, with_more, LongerLaw}
use Rattle.def_machine.proofs.Basics.{if_both, longer_keeps, some_of}
use Rattle.def_machine.proofs.Places.{allowed_is}

-- ---- a property of updates and what was handed in, which events keep

module _ (M : Machine) (Q : Update M → Submission M → Type 0) where
  abbrev Along : List (Update M) → List (Submission M) → Type 0
  Along [] xs = Unit {0}
  Along (u ∷ us) [] = ⊥
  Along (u ∷ us) (x ∷ xs) = Q u x × Along us xs

  along_at : (us : List (Update M)) (xs : List (Submission M)) (k : ℕ) (u : Update M) → Along us xs → slice_get us k ≡ Some u → (x : Submission M) × (slice_get xs k ≡ Some x) × Q u x
  along_at [] xs k u a h = absurd (none-some u h)
  along_at (v ∷ us) [] k u a h = absurd a
  along_at (v ∷ us) (x ∷ xs) zero u a h = (x, refl, subst (λ w. Q w x) (same_Some _ _ h) a.0)
  along_at (v ∷ us) (x ∷ xs) (suc k) u a h = along_at us xs k u a.1 h

  along_put : (us : List (Update M)) (xs : List (Submission M)) (k : ℕ) (u v : Update M) (vs : List (Update M)) → Along us xs → slice_get us k ≡ Some u → ((x : Submission M) → Q u x → Q v x) → ((ys : List (Submission M)) → Along (drop (suc k) us) ys → Along vs ys) → Along (take k us ++ v ∷ vs) xs
  along_put [] xs k u v vs a h f g = absurd (none-some u h)
  along_put (w ∷ us) [] k u v vs a h f g = absurd a
  along_put (w ∷ us) (x ∷ xs) zero u v vs a h f g = (f x (subst (λ y. Q y x) (same_Some _ _ h) a.0), g xs a.1)
  along_put (w ∷ us) (x ∷ xs) (suc k) u v vs a h f g = (a.0, along_put us xs k u v vs a.1 h f g)

  along_more : (us : List (Update M)) (xs : List (Submission M)) (v : Update M) (y : Submission M) → Along us xs → slice_get xs (length us) ≡ Some y → Q v y → Along (us ++ v ∷ []) xs
  along_more [] [] v y a h q = absurd (none-some y h)
  along_more [] (x ∷ xs) v y a h q = (subst (λ z. Q v z) (sym (same_Some _ _ h)) q, tt)
  along_more (u ∷ us) [] v y a h q = absurd a
  along_more (u ∷ us) (x ∷ xs) v y a h q = (a.0, along_more us xs v y a.1 h q)

  along_restarted : ((n : ℕ) (u : Update M) (x : Submission M) → Q u x → Q (begun_again M n u) x) → (ns : List ℕ) (n : ℕ) (us : List (Update M)) (xs : List (Submission M)) → Along us xs → Along (restarted M ns n us) xs
  along_restarted f ns n [] xs a = tt
  along_restarted f ns n (u ∷ us) [] a = absurd a
  along_restarted f ns n (u ∷ us) (x ∷ xs) a =
      (if_both (λ w. Q w x) (has_number ns n) (begun_again M n u) u (λ e. f n u x a.0) (λ e. a.0), along_restarted f ns (suc n) us xs a.1)

  record IsKept (plain : Bool) : Type 0 where
    pub step : (D : M.Repository) (u : Update M) (x : Submission M) → Q u x → Q (stepped M D u) x
    pub restart : (n : ℕ) (u : Update M) (x : Submission M) → Q u x → Q (begun_again M n u) x
    pub deliver : (u : Update M) (x : Submission M) → Q u x → Q (delivered M u) x
    pub admit : (n : ℕ) (x : Submission M) → Q (admitted M n x) x
    pub answer : plain ≡ false → (u : Update M) (x : Submission M) (c : M.Choice) → Q u x → Q (answered M u c) x
    pub withdraw : plain ≡ false → (u : Update M) (x : Submission M) → Q u x → Q (withdrawn_now M u) x

  not_plain : (plain : Bool) → (plain ≡ true → false ≡ true) → plain ≡ false
  not_plain false h = refl
  not_plain true h = sym (h refl)

  along_effect : (plain : Bool) → IsKept plain → (s : Settings) (S : Session M) (us : List (Update M)) (e : Event M) (x : Effect M) → (plain ≡ true → is_recorded e ≡ true) → Along us S.submissions → effect M s S us e ≡ Some x → Along x.updates S.submissions
  along_effect plain K s S us Admits x p a h =
      let y = some_of (admit_effect M us) (slice_get S.submissions (length us)) x h in
      subst (λ (z : Effect M). Along z.updates S.submissions) y.2 (along_more us S.submissions (admitted M (suc (length us)) y.0) y.0 a y.1 (K.admit (suc (length us)) y.0))
  along_effect plain K s S us (Steps i) x p a h =
      let b = allowed_is us i (may_step M s us) (step_effect M s S us) x h in
      let v : Update M = stepped M (below M S.base us b.place) b.item in
      subst (λ (z : Effect M). Along z.updates S.submissions) b.made
      (along_put us S.submissions b.place b.item v (restarted M (readers (causes_of_step M s.deps (committed M us) (suc b.place) (below M S.base us b.place) b.item v (drop (suc b.place) us))) (suc (suc b.place)) (drop (suc b.place) us)) a b.found
      (λ y q. K.step (below M S.base us b.place) b.item y q)
      (λ ys q. along_restarted K.restart (readers (causes_of_step M s.deps (committed M us) (suc b.place) (below M S.base us b.place) b.item v (drop (suc b.place) us))) (suc (suc b.place)) (drop (suc b.place) us) ys q))
  along_effect plain K s S us (Delivers i) x p a h =
      let b = allowed_is us i (may_deliver M s us) (deliver_effect M s us) x h in
      subst (λ (z : Effect M). Along z.updates S.submissions) b.made
      (along_put us S.submissions b.place b.item (delivered M b.item) (drop (suc b.place) us) a b.found (λ y q. K.deliver b.item y q) (λ ys q. q))
  along_effect plain K s S us (Answers i c) x p a h =
      let b = allowed_is us i (may_answer M s us c) (answer_effect M s us c) x h in
      subst (λ (z : Effect M). Along z.updates S.submissions) b.made
      (along_put us S.submissions b.place b.item (answered M b.item c) (drop (suc b.place) us) a b.found (λ y q. K.answer (not_plain plain p) b.item y c q) (λ ys q. q))
  along_effect plain K s S us (Withdraws i) x p a h =
      let b = allowed_is us i (may_withdraw M us) (withdraw_effect M s S us) x h in
      let ns : List ℕ = readers (causes_of_loss M s.deps (committed M us) (suc b.place) (below M S.base us b.place) b.item (drop (suc b.place) us)) in
      subst (λ (z : Effect M). Along z.updates S.submissions) b.made
      (along_put us S.submissions b.place b.item (withdrawn_now M b.item) (restarted M ns (suc (suc b.place)) (drop (suc b.place) us)) a b.found
      (λ y q. K.withdraw (not_plain plain p) b.item y q)
      (λ ys q. along_restarted K.restart ns (suc (suc b.place)) (drop (suc b.place) us) ys q))

  along_after : (plain : Bool) → IsKept plain → (s : Settings) (S : Session M) (l m : Log M) (es : List (Event M)) → (plain ≡ true → list_all is_recorded es ≡ true) → Along l.updates S.submissions → after M s S l es ≡ Some m → Along m.updates S.submissions
  along_after plain K s S l m [] p a h = subst (λ (x : Log M). Along x.updates S.submissions) (same_Some _ _ h) a
  along_after plain K s S l m (e ∷ es) p a h =
      option_and_then_some (λ x. after M s S (with_entry M l.entries x) es) (effect M s S l.updates e) m h
      (λ x f g. along_after plain K s S (with_entry M l.entries x) m es (λ t. (and_parts _ _ (p t)).1) (along_effect plain K s S l.updates e x (λ t. (and_parts _ _ (p t)).0) a f) g)

-- ---- the operation; with recorded events the answers too

module _ (M : Machine) where
  abbrev AsHandedIn : Update M → Submission M → Type 0
  AsHandedIn u x = (u.withdrawn ≡ false) × (u.operation ≡ x.operation) × (u.answers ++ u.inbox ≡ x.answers)

  turns_are : (n : ℕ) (us : List (Update M)) (xs : List (Submission M)) → Along M AsHandedIn us xs → map by_first_attempt (all_turns M n us) ≡ session_turns M n (take (length us) xs)
  turns_are n [] xs a = refl
  turns_are n (u ∷ us) [] a = absurd a
  turns_are n (u ∷ us) (x ∷ xs) a =
      let rest : map by_first_attempt (all_turns M (suc n) us) ≡ session_turns M (suc n) (take (length us) xs) = turns_are (suc n) us xs a.1 in
      (λ i. map by_first_attempt (if a.0.0 i then all_turns M (suc n) us else record { number = n; attempt = u.attempt; operation = u.operation; answers = u.answers ++ u.inbox } ∷ all_turns M (suc n) us))
      ∙ (λ i. record { number = n; attempt = 0; operation = a.0.1 i; answers = a.0.2 i } ∷ rest i)

  pub recorded_law : RecordedLaw M
  recorded_law s S es l h = record {
    operations = λ k u f. along_at M (λ u x. u.operation ≡ x.operation) l.updates S.submissions k u all f;
    turns = λ p. turns_are 1 l.updates S.submissions (handed p);
    present = λ p k u f. (along_at M AsHandedIn l.updates S.submissions k u (handed p) f).2.0;
  }
    where
      all : Along M (λ u x. u.operation ≡ x.operation) l.updates S.submissions
      all = along_after M (λ u x. u.operation ≡ x.operation) false
          record { step = λ D u x q. q; restart = λ n u x q. q; deliver = λ u x q. q; admit = λ n x. refl; answer = λ t u x c q. q; withdraw = λ t u x q. q }
          s S (empty_log M) l es (λ t. absurd (both_ways true (sym t) refl)) tt h

      joined : (u : Update M) (x : Submission M) → AsHandedIn u x → AsHandedIn (delivered M u) x
      joined u x q = (q.0, q.1, append_assoc u.answers (take 1 u.inbox) (drop 1 u.inbox) ∙ ap (λ cs. u.answers ++ cs) (take-append-drop 1 u.inbox) ∙ q.2)

      handed : list_all is_recorded es ≡ true → Along M AsHandedIn l.updates S.submissions
      handed p = along_after M AsHandedIn true
          record { step = λ D u x q. q; restart = λ n u x q. q; deliver = joined; admit = λ n x. (refl, refl, refl); answer = λ t. absurd (both_ways true t refl); withdraw = λ t. absurd (both_ways true t refl) }
          s S (empty_log M) l es (λ t. p) tt h

  -- ---- further updates handed in

  longer_effect : (s : Settings) (S : Session M) (xs : List (Submission M)) (us : List (Update M)) (e : Event M) (x : Effect M) → effect M s S us e ≡ Some x → effect M s (with_more S xs) us e ≡ Some x
  longer_effect s S xs us Admits x h =
      let p = some_of (admit_effect M us) (slice_get S.submissions (length us)) x h in
      ap (option_map (admit_effect M us)) (longer_keeps S.submissions xs (length us) p.0 p.1) ∙ ap Some p.2
  longer_effect s S xs us (Steps i) x h = h
  longer_effect s S xs us (Delivers i) x h = h
  longer_effect s S xs us (Answers i c) x h = h
  longer_effect s S xs us (Withdraws i) x h = h

  pub longer_law : LongerLaw M
  longer_law s S xs l m [] h = h
  longer_law s S xs l m (e ∷ es) h =
      option_and_then_some (λ x. after M s S (with_entry M l.entries x) es) (effect M s S l.updates e) m h
      (λ x f g. ap (option_and_then (λ x. after M s (with_more S xs) (with_entry M l.entries x) es)) (longer_effect s S xs l.updates e x f) ∙ longer_law s S xs (with_entry M l.entries x) m es g)
