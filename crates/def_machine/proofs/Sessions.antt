-- A quiet history over a whole session is the serial machine there; turns that stand beside one another.
use Rattle.std.proofs.Common.{subst, true, ◌≡◌, ℕ, suc, ◌≤◌, ◌+◌, ap, refl, ◌∙◌, List, [], ◌∷◌, ◌++◌, take, map, length, arith, Some, None}
use Rattle.std.specs.Prelude.{if◌then◌else◌, slice_get}
use Rattle.def_machine.specs.Machine.{Machine, Laws}
use Rattle.def_machine.specs.Updates.{Update, Session, Settings, below, committed, is_over}
use Rattle.def_machine.specs.Serial.{Turn, Result, serial, committed_turns, committed_finishes, all_turns, first_stop, session_turns}
use Rattle.def_machine.specs.Simulation.{Simulation, AreTurns, AreResults}
use Rattle.def_machine.specs.Effects.{Event}
use Rattle.def_machine.specs.Histories.{Log, empty_log, after}
use Rattle.def_machine.specs.Standings.{is_quiet}
use Rattle.def_machine.specs.Quiet.{QuietLaw}
use Rattle.def_machine.proofs.Basics.{if_both}
use Rattle.def_machine.proofs.Theorem.{history_law}
use Rattle.def_machine.proofs.Recorded.{recorded_law}
use Rattle.def_machine.proofs.Simulations.{serial_alike}

pub taken_whole : {A : Type 0} (xs : List A) → take (length xs) xs ≡ xs
taken_whole [] = refl
taken_whole (x ∷ xs) = ap (λ ys. x ∷ ys) (taken_whole xs)

pub quiet_law : (M : Machine) → Laws M → QuietLaw M
quiet_law M L s S es l z h p e q =
    let kept = recorded_law M s S es l h in (
      all_turns M 1 l.updates,
      record {
        of_session = kept.turns p ∙ ap (λ n. session_turns M 1 (take n S.submissions)) e ∙ ap (session_turns M 1) (taken_whole S.submissions);
        result = (history_law M L s S es l z h).quiet q;
      },
    )

-- ---- turns of a history beside other turns

-- the turn of update n with these answers
abbrev pub turn_of : (M : Machine) → ℕ → Update M → List M.Choice → Turn M
turn_of M n u answers = record { number = n; attempt = u.attempt; operation = u.operation; answers = answers }

module _ (M K : Machine) (R : Simulation M K) (f : Turn M → Turn K) where
  earlier : (n m : ℕ) (ts : List (Turn M)) (ss : List (Turn K)) → n ≤ m → AreTurns R m ts ss → AreTurns R n ts ss
  earlier n m [] [] l a = tt
  earlier n m (t ∷ ts) [] l a = absurd a
  earlier n m [] (s ∷ ss) l a = absurd a
  earlier n m (t ∷ ts) (s ∷ ss) l a = (omega (arith, l, a.0), a.1, a.2)

  pub all_beside : (n : ℕ) (us : List (Update M)) → ((k m : ℕ) (u : Update M) → m ≡ n + k → slice_get us k ≡ Some u → R.Turns (turn_of M m u (u.answers ++ u.inbox)) (f (turn_of M m u (u.answers ++ u.inbox)))) → AreTurns R n (all_turns M n us) (map f (all_turns M n us))
  all_beside n [] h = tt
  all_beside n (u ∷ us) h =
      let rest : AreTurns R (suc n) (all_turns M (suc n) us) (map f (all_turns M (suc n) us)) = all_beside (suc n) us (λ k m v e g. h (suc k) m v (omega (arith, e)) g) in
      if_both (λ (ts : List (Turn M)). AreTurns R n ts (map f ts)) u.withdrawn (all_turns M (suc n) us) (turn_of M n u (u.answers ++ u.inbox) ∷ all_turns M (suc n) us)
      (λ w. earlier n (suc n) (all_turns M (suc n) us) (map f (all_turns M (suc n) us)) (omega arith) rest)
      (λ w. (omega arith, h 0 n u (omega arith) refl, rest))

  pub committed_beside : (n : ℕ) (us : List (Update M)) → ((k m : ℕ) (u : Update M) → m ≡ n + k → slice_get us k ≡ Some u → R.Turns (turn_of M m u u.answers) (f (turn_of M m u u.answers))) → AreTurns R n (committed_turns M n us) (map f (committed_turns M n us))
  committed_beside n [] h = tt
  committed_beside n (u ∷ us) h =
      let rest : AreTurns R (suc n) (committed_turns M (suc n) us) (map f (committed_turns M (suc n) us)) = committed_beside (suc n) us (λ k m v e g. h (suc k) m v (omega (arith, e)) g) in
      if_both (λ (ts : List (Turn M)). AreTurns R n ts (map f ts)) (is_over M u) (if u.withdrawn then committed_turns M (suc n) us else turn_of M n u u.answers ∷ committed_turns M (suc n) us) []
      (λ o. if_both (λ (ts : List (Turn M)). AreTurns R n ts (map f ts)) u.withdrawn (committed_turns M (suc n) us) (turn_of M n u u.answers ∷ committed_turns M (suc n) us)
      (λ w. earlier n (suc n) (committed_turns M (suc n) us) (map f (committed_turns M (suc n) us)) (omega arith) rest)
      (λ w. (omega arith, h 0 n u (omega arith) refl, rest)))
      (λ o. tt)

-- ---- what a history leaves, beside the serial run of another machine

module _ (M K : Machine) (L : Laws M) (R : Simulation M K) (f : Turn M → Turn K) (s : Settings) (S : Session M) (E : K.Repository) (es : List (Event M)) (l : Log M) (z : M.Sound S.base) (h : after M s S (empty_log M) es ≡ Some l) where
  -- the committed updates
  pub committed_alike : R.Repositories 1 S.base E → ((k m : ℕ) (u : Update M) → m ≡ 1 + k → slice_get l.updates k ≡ Some u → R.Turns (turn_of M m u u.answers) (f (turn_of M m u u.answers)))
      → AreResults R (record { finishes = committed_finishes M 1 l.updates; stop = None; repository = below M S.base l.updates (committed M l.updates) }) (serial K E (map f (committed_turns M 1 l.updates)))
  committed_alike r t =
      subst (λ (x : Result M). AreResults R x (serial K E (map f (committed_turns M 1 l.updates)))) (history_law M L s S es l z h).as_serial
      (serial_alike M K L R 1 (committed_turns M 1 l.updates) (map f (committed_turns M 1 l.updates)) S.base E (committed_beside M K R f 1 l.updates t) r)

  -- all updates, where it is quiet
  pub quiet_alike : is_quiet M s l.updates ≡ true → R.Repositories 1 S.base E
      → ((k m : ℕ) (u : Update M) → m ≡ 1 + k → slice_get l.updates k ≡ Some u → R.Turns (turn_of M m u (u.answers ++ u.inbox)) (f (turn_of M m u (u.answers ++ u.inbox))))
      → AreResults R (record { finishes = committed_finishes M 1 l.updates; stop = first_stop M 1 l.updates; repository = below M S.base l.updates (committed M l.updates) }) (serial K E (map f (all_turns M 1 l.updates)))
  quiet_alike q r t =
      subst (λ (x : Result M). AreResults R x (serial K E (map f (all_turns M 1 l.updates)))) ((history_law M L s S es l z h).quiet q)
      (serial_alike M K L R 1 (all_turns M 1 l.updates) (map f (all_turns M 1 l.updates)) S.base E (all_beside M K R f 1 l.updates t) r)
