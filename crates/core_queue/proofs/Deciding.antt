-- What the tests on the way to a standing decide.
use Rattle.std.proofs.Common.{◌≡◌, ◌∙◌, ap, sym, ℕ, Bool, true, false, Option, Some, None}
use Rattle.std.specs.Prelude.{if◌then◌else◌, ◌&&◌}
use Rattle.std.specs.Option.{option_map}
use Rattle.chase_question.specs.Inquiries.{Inquiry, inquiry_in}
use Rattle.def_machine.specs.Standings.{Lack, Standing, Held, Withdrawn, unless_ended, unless_paused}
use Rattle.chase_update.specs.Wishes.{end_in}
use Rattle.def_steps.specs.Attempts.{Outcome, Question}
use Rattle.def_steps.specs.Chase.{ending}

-- Not withdrawn, and not ended.
pub stands : (w : Bool) (oc : Option Outcome) (st s : Standing) → w ≡ false → None ≡ option_map end_in oc → st ≡ s → st ≡ (if w then Withdrawn else unless_ended (option_map ending oc) s)
stands true oc st s e h f = let never : true ≡ false = e in cc
stands false None st s e h f = f
stands false (Some o) st s e h f = let never : None ≡ Some (end_in o) = h in cc

-- Held.
pub held : (a b : Bool) (k m : ℕ) (s : Standing) → a ≡ true → a ≡ b → k ≡ m → Held k ≡ (if b then Held m else s)
held a b k m s e h f = ap Held f ∙ ap (λ (x : Bool). if x then Held m else s) (sym e ∙ h)

-- Not held.
pub going : (a b : Bool) (k : ℕ) (l m : Option Lack) → a ≡ false → a ≡ b → l ≡ m → unless_paused l ≡ (if b then Held k else unless_paused m)
going a b k l m e h f = ap unless_paused f ∙ ap (λ (x : Bool). if x then Held k else unless_paused m) (sym e ∙ h)

-- Both tests, where the first holds, and where it does not.
pub both : (a b c d : Bool) → a ≡ true → a ≡ c → b ≡ d → b ≡ (c && d)
both a b c d e h f = f ∙ ap (λ (x : Bool). x && d) (sym e ∙ h)

pub neither : (a c d : Bool) → a ≡ false → a ≡ c → a ≡ (c && d)
neither a c d e h = e ∙ ap (λ (x : Bool). x && d) (sym e ∙ h)

-- The question that is put, and that none is.
pub put : (a b : Bool) (i : Option Inquiry) (q : Option Question) → a ≡ true → a ≡ b → i ≡ option_map inquiry_in q → i ≡ option_map inquiry_in (if b then q else None)
put a b i q e h f = f ∙ ap (λ (x : Bool). option_map inquiry_in (if x then q else None)) (sym e ∙ h)

pub unput : (a b : Bool) (q : Option Question) → a ≡ false → a ≡ b → None ≡ option_map inquiry_in (if b then q else None)
unput a b q e h = ap (λ (x : Bool). option_map inquiry_in (if x then q else None)) (sym e ∙ h)
