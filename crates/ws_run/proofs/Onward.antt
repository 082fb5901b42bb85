-- What an op sees after a step.
use Rattle.std.proofs.Common.{◌≡◌, ◌∙◌, ap, sym, ℕ, List, Option, None}
use Rattle.def_chase.specs.Values.{Fact}
use Rattle.def_chase.specs.Mappings.{Rule}
use Rattle.def_chase.specs.Updates.{Choice, direction_of}
use Rattle.chase_eval.specs.Watched.{Watched}
use Rattle.chase_update.specs.Courses.{State}
use Rattle.run_step.specs.Turns.{HasStepped, seen_with, view_of}

-- It is between two steps.
pub rests_after : (ms : List Rule) (B : ℕ) (D : List Fact) (c : Option Choice) (s t : State) → HasStepped ms B D c s t → t.reading ≡ None
rests_after ms B D c s t made = ap (λ (u : State). u.reading) made

-- The view is still of the mappings and in the op's direction, and sees the own writes.
pub sees_on : (ms : List Rule) (B : ℕ) (D E : List Fact) (c : Option Choice) (s t : State) (v w : Watched)
    → v ≡ view_of ms E s.attempt → HasStepped ms B D c s t → w ≡ seen_with v t.attempt.own → w ≡ view_of ms E t.attempt
sees_on ms B D E c s t v w seen made seen_more =
    let heading : direction_of s.attempt.operation ≡ direction_of t.attempt.operation = sym (ap (λ (u : State). direction_of u.attempt.operation) made) in
    seen_more
    ∙ ap (λ (u : Watched). record { rules = u.rules; heading = u.heading; below = u.below; own = t.attempt.own }) seen
    ∙ (λ i. record { rules = ms; heading = heading i; below = E; own = t.attempt.own })
