-- A log from its gate on.
use Rattle.std.proofs.Common.{◌≡◌, ℕ, zero, suc, ◌≤◌, ap, refl, ◌∙◌, sym, subst, List, [], ◌∷◌, ◌++◌, length, drop, arith, length-append}
use Rattle.base_devices.specs.States.{State, IsSettled}
use Rattle.base_roll.specs.Rolls.{IsRoll, IsAt}
use Rattle.ws_seal.specs.Logs.{HasGateAt, IsHeld}

dropped : (before rest : List ℕ) → drop (length before) (before ++ rest) ≡ rest
dropped [] rest = refl
dropped (b ∷ before) rest = dropped before rest

pub within : (gate : ℕ) (bytes : List ℕ) → HasGateAt gate bytes → gate ≤ length bytes
within gate bytes h = omega (arith, h.place, ap length h.stands, length-append h.before h.rest)

pub held : (gate : ℕ) (bytes m : List ℕ) (new : State) → HasGateAt gate bytes → new.bytes ≡ drop gate bytes → IsSettled new → IsHeld [] m [] new 0 m
held gate bytes m new h e settled =
    let left : new.bytes ≡ h.rest = e ∙ ap (λ n. drop n bytes) h.place ∙ ap (drop (length h.before)) h.stands ∙ dropped h.before h.rest in
    record {
      at = record { roll = (h.rest, record { short = tt; bytes = left }, h.closed); settled = settled; gate = refl };
      mark_is = refl;
    }
