-- What each update may do next: its standing.
use Rattle.std.specs.Prelude.{ℕ, suc, nat_lt, Bool, true, false, not, ◌&&◌, if◌then◌else◌, List, [], ◌∷◌, Option, Some, None, is_some, is_none, slice_get}
use Rattle.def_machine.specs.Machine.{Machine, Outcome}
use Rattle.def_machine.specs.Updates.{Update, Settings, committed}

-- Why an attempt that waits for an answer cannot go on: there is no next answer, or the next one does not fit the question.
pub data Lack : Type 0 where
  Missing : Lack
  Misfit : Lack

-- The standing of an update. If its attempt has not ended, it is held until the lower updates are committed (with the lowest
-- number that is not), or paused because it lacks an answer, or ready to step. An update with `Paused Missing` is called pending.
pub data Standing : Type 0 where
  Ready : Standing
  Held : ℕ → Standing
  Paused : Lack → Standing
  Ended : Outcome → Standing
  Withdrawn : Standing

-- The next answer of the list, if the state waits for one.
abbrev pub next_answer : (M : Machine) → List M.Choice → M.State → Option M.Choice
next_answer M answers P = if is_some (M.question P) then slice_get answers (M.taken P) else None

-- The lack at this question, with this next answer if there is one.
abbrev pub unless_fits : (M : Machine) → M.Question → Option M.Choice → Option Lack
unless_fits M q None = Some Missing
unless_fits M q (Some c) = if M.fits q c then None else Some Misfit

-- The lack at the question at which the state waits, if it waits at one.
abbrev pub lack_for : (M : Machine) → List M.Choice → M.State → Option M.Question → Option Lack
lack_for M answers P None = None
lack_for M answers P (Some q) = unless_fits M q (slice_get answers (M.taken P))

-- The lack of a state with these answers; None if it can go on.
abbrev pub lack : (M : Machine) → List M.Choice → M.State → Option Lack
lack M answers P = lack_for M answers P (M.question P)

-- Ready, unless an answer is lacking.
abbrev pub unless_paused : Option Lack → Standing
unless_paused None = Ready
unless_paused (Some l) = Paused l

-- The standing, unless the attempt has ended.
abbrev pub unless_ended : Option Outcome → Standing → Standing
unless_ended None s = s
unless_ended (Some o) s = Ended o

-- The update was restarted too often to go on while lower updates are not committed; c updates are committed, and this one has
-- number n.
abbrev pub is_held : (M : Machine) → Settings → ℕ → ℕ → Update M → Bool
is_held M s c n u = nat_lt s.retries u.attempt && nat_lt (suc c) n

-- The standing of update n if c updates are committed. The first case that holds counts: withdrawn, ended, held, paused, ready.
abbrev pub standing : (M : Machine) → Settings → ℕ → ℕ → Update M → Standing
standing M s c n u =
    if u.withdrawn then Withdrawn
    else unless_ended (M.outcome u.state) (if is_held M s c n u then Held (suc c) else unless_paused (lack M u.answers u.state))

-- The standing is Ready.
abbrev pub is_ready : Standing → Bool
is_ready Ready = true
is_ready (Held c) = false
is_ready (Paused l) = false
is_ready (Ended o) = false
is_ready Withdrawn = false

-- The standing is paused without a next answer.
abbrev pub is_pending : Standing → Bool
is_pending Ready = false
is_pending (Held c) = false
is_pending (Paused Missing) = true
is_pending (Paused Misfit) = false
is_pending (Ended o) = false
is_pending Withdrawn = false

-- The standing is paused, with or without a next answer.
abbrev pub is_paused : Standing → Bool
is_paused Ready = false
is_paused (Held c) = false
is_paused (Paused l) = true
is_paused (Ended o) = false
is_paused Withdrawn = false

-- The list is empty.
abbrev pub is_nil : {A : Type 0} → List A → Bool
is_nil [] = true
is_nil (x ∷ xs) = false

-- The update is pending, with an answer in the inbox.
abbrev pub is_deliverable : (M : Machine) → Settings → ℕ → ℕ → Update M → Bool
is_deliverable M s c n u = is_pending (standing M s c n u) && not (is_nil u.inbox)

-- The question of update n that people see; there is one exactly if the update is paused.
abbrev pub question_of : (M : Machine) → Settings → ℕ → ℕ → Update M → Option M.Question
question_of M s c n u = if is_paused (standing M s c n u) then M.question u.state else None

-- The least number of an update that passes the test; the first of the list has number n.
abbrev pub lowest_that : {M : Machine} → (ℕ → Update M → Bool) → ℕ → List (Update M) → Option ℕ
lowest_that p n [] = None
lowest_that p n (u ∷ us) = if p n u then Some n else lowest_that p (suc n) us

-- The least number of a ready update.
abbrev pub lowest_ready : (M : Machine) → Settings → List (Update M) → Option ℕ
lowest_ready M s us = lowest_that (λ n u. is_ready (standing M s (committed M us) n u)) 1 us

-- The least number of a deliverable update.
abbrev pub lowest_deliverable : (M : Machine) → Settings → List (Update M) → Option ℕ
lowest_deliverable M s us = lowest_that (λ n u. is_deliverable M s (committed M us) n u) 1 us

-- No update is ready, and none is deliverable.
abbrev pub is_quiet : (M : Machine) → Settings → List (Update M) → Bool
is_quiet M s us = is_none (lowest_ready M s us) && is_none (lowest_deliverable M s us)
