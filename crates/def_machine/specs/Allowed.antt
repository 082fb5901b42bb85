-- When each event is allowed, by the standing of its update, and which question people see.
use Rattle.std.specs.Prelude.{◌≡◌, ℕ, suc, nat_lt, false, not, ◌&&◌, List, Some, None, is_some, slice_get}
use Rattle.def_machine.specs.Machine.{Machine}
use Rattle.def_machine.specs.Updates.{Update, Session, Settings, committed}
use Rattle.def_machine.specs.Standings.{standing, is_ready, is_paused, is_deliverable, question_of}
use Rattle.def_machine.specs.Effects.{Steps, Delivers, Answers, Withdraws, fits_question, effect}

-- The events that are allowed at update k + 1, which is u.
pub record IsAllowedBy (M : Machine) (s : Settings) (S : Session M) (us : List (Update M)) (k : ℕ) (u : Update M) : Type 0 where
  pub steps : is_some (effect M s S us (Steps (suc k))) ≡ is_ready (standing M s (committed M us) (suc k) u)
  pub delivers : is_some (effect M s S us (Delivers (suc k))) ≡ is_deliverable M s (committed M us) (suc k) u
  pub answers : (c : M.Choice)
      → is_some (effect M s S us (Answers (suc k) c)) ≡ (is_paused (standing M s (committed M us) (suc k) u) && fits_question M (M.question u.state) c)
  pub withdraws : is_some (effect M s S us (Withdraws (suc k))) ≡ (nat_lt (committed M us) (suc k) && not u.withdrawn)
  -- there is a question exactly if the update is paused, and then the next answer, if there is one, does not fit it
  pub question : is_some (question_of M s (committed M us) (suc k) u) ≡ is_paused (standing M s (committed M us) (suc k) u)
  pub unfit : (q : M.Question) (c : M.Choice) → question_of M s (committed M us) (suc k) u ≡ Some q
      → slice_get u.answers (M.taken u.state) ≡ Some c → M.fits q c ≡ false

-- If there is no update k + 1, nothing is allowed at it.
pub record IsNowhere (M : Machine) (s : Settings) (S : Session M) (us : List (Update M)) (k : ℕ) : Type 0 where
  pub steps : effect M s S us (Steps (suc k)) ≡ None
  pub delivers : effect M s S us (Delivers (suc k)) ≡ None
  pub answers : (c : M.Choice) → effect M s S us (Answers (suc k) c) ≡ None
  pub withdraws : effect M s S us (Withdraws (suc k)) ≡ None

-- This holds in any list of updates.
abbrev pub AllowedLaw : Machine → Type 0
AllowedLaw M =
    (s : Settings) (S : Session M) (us : List (Update M)) (k : ℕ)
    → ((u : Update M) → slice_get us k ≡ Some u → IsAllowedBy M s S us k u) × (slice_get us k ≡ None → IsNowhere M s S us k)
