-- What a crash leaves over several calls of a disk.
use Rattle.std.proofs.Common.{◌≡◌, ℕ, ◌≤◌, ◌⊎◌, inl, inr, sym, ◌∙◌, List, arith}
use Rattle.base_devices.specs.Faults.{next_count}
use Rattle.base_devices.specs.States.{State, GoesOn, LeavesOnly, HasFailed}

either : (k n : ℕ) → (k ≤ n) ⊎ (n ≤ k)
either k n = grind arith

pub goes_on : (a b c : State) → GoesOn a b → GoesOn b c → GoesOn a c
goes_on a b c f g =
    let early : a.now ≤ b.now = f.later in
    let late : b.now ≤ c.now = g.later in
    record {
      later = omega arith;
      nothing_more = λ k bytes l i. f.nothing_more k bytes l (g.nothing_more k bytes (omega arith) i);
      nothing_less = λ k bytes l i. g.nothing_less k bytes (omega arith) (f.nothing_less k bytes l i);
    }

pub leaves_on : (P : List ℕ → Type 0) (a b c : State) → LeavesOnly a b P → GoesOn b c → LeavesOnly b c P → LeavesOnly a c P
leaves_on P a b c f g h k bytes l m i = elim (either k b.now) [
  | inl early ↦ f k bytes l early (g.nothing_more k bytes early i)
  | inr late ↦ h k bytes late m i
]

pub weaker : (P Q : List ℕ → Type 0) (a b : State) → ((bytes : List ℕ) → P bytes → Q bytes) → LeavesOnly a b P → LeavesOnly a b Q
weaker P Q a b f h k bytes l m i = f bytes (h k bytes l m i)

-- a disk that failed later has failed
pub failed_later : (a b c : State) → a.faults ≤ b.faults → b.reliable ≡ a.reliable → HasFailed b c → HasFailed a c
failed_later a b c l same (rose, fails) = let r : next_count b.faults ≤ c.faults = rose in ((omega arith), sym same ∙ fails)
