-- The turns of a history's updates, in order of their numbers.
use Rattle.std.proofs.Common.{◌≡◌, ℕ, suc, ◌≤◌, ◌+◌, refl, List, [], ◌∷◌, ◌++◌, arith, Some}
use Rattle.std.specs.Prelude.{if◌then◌else◌, slice_get}
use Rattle.def_machine.specs.Machine.{Machine}
use Rattle.def_machine.specs.Updates.{Update, is_over}
use Rattle.def_machine.specs.Serial.{Turn, committed_turns, all_turns}
use Rattle.def_machine.proofs.Basics.{if_both}
use Rattle.def_machine.proofs.Sessions.{turn_of}

-- Each of the turns has P, and their numbers rise from n on.
abbrev pub Rising : (M : Machine) → (Turn M → Type 0) → ℕ → List (Turn M) → Type 0
Rising M P n [] = Unit {0}
Rising M P n (t ∷ ts) = (n ≤ t.number) × P t × Rising M P (suc t.number) ts

module _ (M : Machine) (P : Turn M → Type 0) where
  sooner : (n m : ℕ) (ts : List (Turn M)) → n ≤ m → Rising M P m ts → Rising M P n ts
  sooner n m [] l a = tt
  sooner n m (t ∷ ts) l a = (omega (arith, l, a.0), a.1, a.2)

  pub committed_rising : (n : ℕ) (us : List (Update M)) → ((k m : ℕ) (u : Update M) → m ≡ n + k → slice_get us k ≡ Some u → P (turn_of M m u u.answers)) → Rising M P n (committed_turns M n us)
  committed_rising n [] h = tt
  committed_rising n (u ∷ us) h =
      let rest : Rising M P (suc n) (committed_turns M (suc n) us) = committed_rising (suc n) us (λ k m v e g. h (suc k) m v (omega (arith, e)) g) in
      if_both (λ (ts : List (Turn M)). Rising M P n ts) (is_over M u) (if u.withdrawn then committed_turns M (suc n) us else turn_of M n u u.answers ∷ committed_turns M (suc n) us) []
      (λ o. if_both (λ (ts : List (Turn M)). Rising M P n ts) u.withdrawn (committed_turns M (suc n) us) (turn_of M n u u.answers ∷ committed_turns M (suc n) us)
      (λ w. sooner n (suc n) (committed_turns M (suc n) us) (omega arith) rest) (λ w. (omega arith, h 0 n u (omega arith) refl, rest)))
      (λ o. tt)

  pub all_rising : (n : ℕ) (us : List (Update M)) → ((k m : ℕ) (u : Update M) → m ≡ n + k → slice_get us k ≡ Some u → P (turn_of M m u (u.answers ++ u.inbox))) → Rising M P n (all_turns M n us)
  all_rising n [] h = tt
  all_rising n (u ∷ us) h =
      let rest : Rising M P (suc n) (all_turns M (suc n) us) = all_rising (suc n) us (λ k m v e g. h (suc k) m v (omega (arith, e)) g) in
      if_both (λ (ts : List (Turn M)). Rising M P n ts) u.withdrawn (all_turns M (suc n) us) (turn_of M n u (u.answers ++ u.inbox) ∷ all_turns M (suc n) us)
      (λ w. sooner n (suc n) (all_turns M (suc n) us) (omega arith) rest) (λ w. (omega arith, h 0 n u (omega arith) refl, rest))
