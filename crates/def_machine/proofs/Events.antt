-- Every event keeps the invariant: each update is its run over what lies below it.
use Rattle.std.proofs.Common.{◌≡◌, ℕ, suc, ◌<◌, ◌≤◌, ◌+◌, ap, sym, refl, subst, ◌∙◌, List, [], ◌∷◌, ◌++◌, map, take, drop, length, Bool, true, false, arith, Some, None}
use Rattle.std.specs.Prelude.{if◌then◌else◌, Option, slice_get, is_some}
use Rattle.std.proofs.lemmas.Bool.{and_parts, both_ways, ltb-true}
use Rattle.std.proofs.lemmas.Option.{same_Some, none-some, option_and_then_some}
use Rattle.def_machine.specs.Trees.{result_of, log_of}
use Rattle.def_machine.specs.Machine.{Machine, Laws, Done, Outcome, Refused, Spent}
use Rattle.def_machine.specs.Updates.{Read, Update, Submission, Session, Settings, hides, trail, below, committed}
use Rattle.def_machine.specs.Standings.{Lack, Missing, lack, unless_fits, lack_for, next_answer}
use Rattle.def_machine.specs.Cascade.{Cause, readers, restarted}
use Rattle.def_machine.specs.Steps.{val, next_step, stepped}
use Rattle.def_machine.specs.Effects.{Event, Admits, Steps, Delivers, Answers, Withdraws, Effect, is_spent, causes_of_loss, causes_of_writes, causes_of_step, withdrawn_now, with_answers, step_effect, withdraw_effect, deliver_effect, answer_effect, admitted, admit_effect, may_step, may_deliver, may_answer, may_withdraw, effect}
use Rattle.def_machine.specs.Histories.{Log, with_entry, after}
use Rattle.def_machine.specs.Runs.{Reached, start, more, IsRun, AreRuns}
use Rattle.def_machine.proofs.Basics.{if_both, longer_keeps, replaced_keeps, length_from, some_of}
use Rattle.def_machine.proofs.Settling.{settled_runs}
use Rattle.def_machine.proofs.Walks.{restarts_of_writes, restarts_of_loss}
use Rattle.def_machine.proofs.Standing.{ready_parts, not_over}
use Rattle.def_machine.proofs.Places.{allowed_is, committed_below, sound_below, runs_at, runs_above, runs_join}

-- the first n answers stay
abbrev pub Keeps : {A : Type 0} → ℕ → List A → List A → Type 0
Keeps {A} n as' bs = (k : ℕ) (c : A) → k < n → slice_get as' k ≡ Some c → slice_get bs k ≡ Some c

taken_less : (b : Bool) (n m k : ℕ) → m ≡ (if b then suc n else n) → k < n → k < m
taken_less true n m k e h = omega arith
taken_less false n m k e h = omega arith

module _ (M : Machine) (L : Laws M) where
  -- what a state lacks, and which answer it takes, follows from the answer at one place
  pub same_lack : (as' bs : List M.Choice) (P : M.State) → (lack M as' P ≡ Some Missing → ⊥) → (is_some (M.question P) ≡ true → (c : M.Choice) → slice_get as' (M.taken P) ≡ Some c → slice_get bs (M.taken P) ≡ Some c)
      → (next_answer M as' P ≡ next_answer M bs P) × (lack M as' P ≡ lack M bs P)
  same_lack as' bs P e keeps = go (M.question P) e keeps
    where
      got : (q : M.Question) (o : Option M.Choice) → slice_get as' (M.taken P) ≡ o → (unless_fits M q o ≡ Some Missing → ⊥) → ((c : M.Choice) → slice_get as' (M.taken P) ≡ Some c → slice_get bs (M.taken P) ≡ Some c) → slice_get as' (M.taken P) ≡ slice_get bs (M.taken P)
      got q None a f g = absurd (f refl)
      got q (Some c) a f g = a ∙ sym (g c a)

      go : (o : Option M.Question) → (lack_for M as' P o ≡ Some Missing → ⊥) → (is_some o ≡ true → (c : M.Choice) → slice_get as' (M.taken P) ≡ Some c → slice_get bs (M.taken P) ≡ Some c)
          → ((if is_some o then slice_get as' (M.taken P) else None) ≡ (if is_some o then slice_get bs (M.taken P) else None)) × (lack_for M as' P o ≡ lack_for M bs P o)
      go None f g = (refl, refl)
      go (Some q) f g = let same : slice_get as' (M.taken P) ≡ slice_get bs (M.taken P) = got q (slice_get as' (M.taken P)) refl f (g refl) in (same, ap (λ o. unless_fits M q o) same)

  taken_more : (P : M.State) (m : M.Move) → is_some (M.question P) ≡ true → M.taken P < M.taken (M.moved P m)
  taken_more P m a =
      let one : M.taken (M.moved P m) ≡ suc (M.taken P) = L.moved_taken P m ∙ ap (λ b. if b then suc (M.taken P) else M.taken P) a in
      omega arith

  none_missing : (o : Option Lack) → o ≡ None → o ≡ Some Missing → ⊥
  none_missing None h g = none-some Missing g
  none_missing (Some x) h g = none-some x (sym h)

  -- a run depends on the answers that it took alone
  pub answers_kept : {D : M.Repository} {as' : List M.Choice} {n a : ℕ} {op : M.Operation} {P : M.State} {log : List (Read M)} → (bs : List M.Choice) → Reached M D as' n a op P log → Keeps (M.taken P) as' bs → Reached M D bs n a op P log
  answers_kept bs start keeps = start
  answers_kept {D} {as'} {n} {a} {op} bs (more {P} {log} r going able) keeps =
      let m : M.Move = result_of (val M op D P) (next_step M as' P) in
      let same = same_lack as' bs P (none_missing (lack M as' P) able) (λ q c f. keeps (M.taken P) c (taken_more P m q) f) in
      let before : Reached M D bs n a op P log = answers_kept bs r (λ k c l f. keeps k c (taken_less (is_some (M.question P)) (M.taken P) _ k (L.moved_taken P m) l) f) in
      subst (λ (o : Option M.Choice). Reached M D bs n a op (M.moved P (result_of (val M op D P) (M.step P o))) (log ++ map (λ q. record { query = q.0; answer = q.1; own = length (M.own P) }) (log_of (val M op D P) (M.step P o))))
      (sym same.0) (more before going (sym same.1 ∙ able))

  spent_hides : (o : Option Outcome) → is_spent o ≡ true → hides o ≡ true
  spent_hides None h = absurd (both_ways false refl h)
  spent_hides (Some Done) h = absurd (both_ways false refl h)
  spent_hides (Some Spent) h = refl
  spent_hides (Some Refused) h = absurd (both_ways false refl h)

  spent_trail : (v : Update M) → is_spent (M.outcome v.state) ≡ true → trail M v ≡ []
  spent_trail v h =
      if_both (λ ws. ws ≡ []) v.withdrawn _ _ (λ w. refl)
      (λ w. if_both (λ ws. ws ≡ []) (hides (M.outcome v.state)) _ _ (λ g. refl) (λ g. absurd (both_ways _ g (spent_hides (M.outcome v.state) h))))

  -- above update j, which lost its trail
  loss_runs : (s : Settings) (c j : ℕ) (D : M.Repository) (u : Update M) (us : List (Update M)) → M.Sound D → c < suc j → AreRuns M (M.apply D (trail M u)) (suc j) us
      → AreRuns M D (suc j) (restarted M (readers (causes_of_loss M s.deps c j D u us)) (suc j) us)
  loss_runs s c j D u us z l r =
      subst (λ vs. AreRuns M D (suc j) vs) (sym (restarts_of_loss M s.deps c j D u us))
      (settled_runs M L s.deps false c j (M.apply D (trail M u)) (M.apply D (trail M u)) D (record { number = j; trail = trail M u } ∷ []) (suc j) us l (λ e. refl)
      record { same = λ e. absurd (both_ways true (sym e) refl); alike = λ p a. L.alike_skip p D D (trail M u) a.0 (L.alike_same p D z) } r)

  -- above update j, which wrote: D lay below the first of them before, E does now
  writes_runs : (s : Settings) (c j : ℕ) (D E : M.Repository) (us : List (Update M)) → M.Sound E → c < suc j → AreRuns M D (suc j) us
      → AreRuns M E (suc j) (restarted M (readers (causes_of_writes M s.deps c j E us)) (suc j) us)
  writes_runs s c j D E us z l r =
      subst (λ vs. AreRuns M E (suc j) vs) (sym (restarts_of_writes M s.deps c j E us))
      (settled_runs M L s.deps true c j D E E [] (suc j) us l (λ e. absurd (both_ways true e refl)) record { same = λ e. refl; alike = λ p a. L.alike_same p E z } r)

  -- above update j, which made a step from u to v
  step_above : (s : Settings) (c j : ℕ) (D : M.Repository) (u v : Update M) (us : List (Update M)) → M.Sound D → c < suc j → AreRuns M (M.apply D (trail M u)) (suc j) us
      → AreRuns M (M.apply D (trail M v)) (suc j) (restarted M (readers (causes_of_step M s.deps c j D u v us)) (suc j) us)
  step_above s c j D u v us z l r =
      if_both (λ (cs : List (Cause M)). AreRuns M (M.apply D (trail M v)) (suc j) (restarted M (readers cs) (suc j) us)) (is_spent (M.outcome v.state)) (causes_of_loss M s.deps c j D u us) (causes_of_writes M s.deps c j (M.apply D (trail M v)) us)
      (λ g. subst (λ F. AreRuns M F (suc j) (restarted M (readers (causes_of_loss M s.deps c j D u us)) (suc j) us))
      (sym (ap (λ ws. M.apply D ws) (spent_trail v g) ∙ L.apply_none D)) (loss_runs s c j D u us z l r))
      (λ g. writes_runs s c j (M.apply D (trail M u)) (M.apply D (trail M v)) us (L.sound_apply D (trail M v) z) l r)

  -- ---- the updates, with another one at place k

  module _ (s : Settings) (S : Session M) (us : List (Update M)) (z : M.Sound S.base) (r : AreRuns M S.base 1 us) where
    abbrev D : ℕ → M.Repository
    D k = below M S.base us k

    -- by numbers: 1 + k is the number of the update at place k
    joined : (k : ℕ) (u v : Update M) (vs : List (Update M)) → slice_get us k ≡ Some u → IsRun M (D k) (suc k) v → AreRuns M (M.apply (D k) (trail M v)) (suc (suc k)) vs → AreRuns M S.base 1 (take k us ++ v ∷ vs)
    joined k u v vs h q rs =
        let e : suc k ≡ 1 + k = omega arith in
        let f : suc (suc k) ≡ suc (1 + k) = omega arith in
        runs_join M L S.base 1 k us (v ∷ vs) (length_from us k u h) r
        (subst (λ m. IsRun M (D k) m v) e q, subst (λ m. AreRuns M (M.apply (D k) (trail M v)) m vs) f rs)

    at : (k : ℕ) (u : Update M) → slice_get us k ≡ Some u → IsRun M (D k) (suc k) u
    at k u h = let e : 1 + k ≡ suc k = omega arith in subst (λ m. IsRun M (D k) m u) e (runs_at M L S.base 1 k us u r h)

    above : (k : ℕ) (u : Update M) → slice_get us k ≡ Some u → AreRuns M (M.apply (D k) (trail M u)) (suc (suc k)) (drop (suc k) us)
    above k u h = let e : suc (1 + k) ≡ suc (suc k) = omega arith in subst (λ m. AreRuns M (M.apply (D k) (trail M u)) m (drop (suc k) us)) e (runs_above M L S.base 1 k us u r h)

    step_runs : (k : ℕ) (u : Update M) → slice_get us k ≡ Some u → may_step M s us k u ≡ true → AreRuns M S.base 1 (step_effect M s S us k u).updates
    step_runs k u h m =
        let p = ready_parts M s (committed M us) (suc k) u m in
        let low : committed M us ≤ k = committed_below M us k u h (not_over M s (committed M us) (suc k) u p.0) in
        let v : Update M = stepped M (D k) u in
        let now : IsRun M (D k) (suc k) v = record { present = λ w. more ((at k u h).present w) p.0.going p.1; gone = λ w. absurd (both_ways _ p.0.present w) } in
        joined k u v (restarted M (readers (causes_of_step M s.deps (committed M us) (suc k) (D k) u v (drop (suc k) us))) (suc (suc k)) (drop (suc k) us)) h now
        (step_above s (committed M us) (suc k) (D k) u v (drop (suc k) us) (sound_below M L S.base us k z) (omega (arith, low)) (above k u h))

    withdraw_runs : (k : ℕ) (u : Update M) → slice_get us k ≡ Some u → may_withdraw M us k u ≡ true → AreRuns M S.base 1 (withdraw_effect M s S us k u).updates
    withdraw_runs k u h m =
        let low : committed M us < suc k = ltb-true _ _ (and_parts _ _ m).0 in
        joined k u (withdrawn_now M u) (restarted M (readers (causes_of_loss M s.deps (committed M us) (suc k) (D k) u (drop (suc k) us))) (suc (suc k)) (drop (suc k) us)) h
        record { present = λ w. absurd (both_ways true w refl); gone = λ w. refl }
        (subst (λ F. AreRuns M F (suc (suc k)) (restarted M (readers (causes_of_loss M s.deps (committed M us) (suc k) (D k) u (drop (suc k) us))) (suc (suc k)) (drop (suc k) us))) (sym (L.apply_none (D k)))
        (loss_runs s (committed M us) (suc k) (D k) u (drop (suc k) us) (sound_below M L S.base us k z) (omega (arith, low)) (above k u h)))

    answers_runs : (k : ℕ) (u : Update M) (answers inbox : List M.Choice) → slice_get us k ≡ Some u → Keeps (M.taken u.state) u.answers answers → AreRuns M S.base 1 (take k us ++ with_answers M u answers inbox ∷ drop (suc k) us)
    answers_runs k u answers inbox h keeps =
        joined k u (with_answers M u answers inbox) (drop (suc k) us) h
        record { present = λ w. answers_kept answers ((at k u h).present w) keeps; gone = (at k u h).gone } (above k u h)

  admitted_runs : (D : M.Repository) (n number : ℕ) (x : Submission M) (us : List (Update M)) → number ≡ n + length us → AreRuns M D n us → AreRuns M D n (us ++ admitted M number x ∷ [])
  admitted_runs D n number x [] e r =
      let same : number ≡ n = omega arith in
      (record { present = λ w. subst (λ k. Reached M D [] k 0 x.operation (M.begin number 0 x.operation) []) same start; gone = λ w. refl }, tt)
  admitted_runs D n number x (u ∷ us) e r = (r.0, admitted_runs (M.apply D (trail M u)) (suc n) number x us (omega arith) r.1)

  pub effect_runs : (s : Settings) (S : Session M) (us : List (Update M)) (e : Event M) (x : Effect M) → M.Sound S.base → AreRuns M S.base 1 us → effect M s S us e ≡ Some x → AreRuns M S.base 1 x.updates
  effect_runs s S us Admits x z r h =
      let p = some_of (admit_effect M us) (slice_get S.submissions (length us)) x h in
      subst (λ (y : Effect M). AreRuns M S.base 1 y.updates) p.2 (admitted_runs S.base 1 (suc (length us)) p.0 us (omega arith) r)
  effect_runs s S us (Steps i) x z r h =
      let a = allowed_is us i (may_step M s us) (step_effect M s S us) x h in
      subst (λ (y : Effect M). AreRuns M S.base 1 y.updates) a.made (step_runs s S us z r a.place a.item a.found a.may)
  effect_runs s S us (Delivers i) x z r h =
      let a = allowed_is us i (may_deliver M s us) (deliver_effect M s us) x h in
      subst (λ (y : Effect M). AreRuns M S.base 1 y.updates) a.made
      (answers_runs s S us z r a.place a.item (a.item.answers ++ take 1 a.item.inbox) (drop 1 a.item.inbox) a.found (λ k c l f. longer_keeps a.item.answers (take 1 a.item.inbox) k c f))
  effect_runs s S us (Answers i c) x z r h =
      let a = allowed_is us i (may_answer M s us c) (answer_effect M s us c) x h in
      subst (λ (y : Effect M). AreRuns M S.base 1 y.updates) a.made
      (answers_runs s S us z r a.place a.item (take (M.taken a.item.state) a.item.answers ++ c ∷ []) a.item.inbox a.found (λ k d l f. replaced_keeps a.item.answers (c ∷ []) (M.taken a.item.state) k d l f))
  effect_runs s S us (Withdraws i) x z r h =
      let a = allowed_is us i (may_withdraw M us) (withdraw_effect M s S us) x h in
      subst (λ (y : Effect M). AreRuns M S.base 1 y.updates) a.made (withdraw_runs s S us z r a.place a.item a.found a.may)

  pub after_runs : (s : Settings) (S : Session M) (l m : Log M) (es : List (Event M)) → M.Sound S.base → AreRuns M S.base 1 l.updates → after M s S l es ≡ Some m → AreRuns M S.base 1 m.updates
  after_runs s S l m [] z r h = subst (λ (x : Log M). AreRuns M S.base 1 x.updates) (same_Some _ _ h) r
  after_runs s S l m (e ∷ es) z r h =
      option_and_then_some (λ x. after M s S (with_entry M l.entries x) es) (effect M s S l.updates e) m h
      (λ x f g. after_runs s S (with_entry M l.entries x) m es z (effect_runs s S l.updates e x z r f) g)
