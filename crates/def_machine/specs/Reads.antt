-- Whether a logged read still has its value, and the first one that does not.
use Rattle.std.specs.Prelude.{ℕ, suc, Bool, not, if◌then◌else◌, List, [], ◌∷◌, take, Option, Some, None, option_map}
use Rattle.std.specs.List.{list_all}
use Rattle.def_machine.specs.Machine.{Machine}
use Rattle.def_machine.specs.Updates.{Read, Update}

-- The value that the read has over D now, for an attempt at the operation that has made these writes.
abbrev pub value_now : (M : Machine) → M.Operation → M.Repository → List M.Write → Read M → M.Reply
value_now M op D own r = M.value op r.query D (take r.own own)

-- The read is valid over D.
abbrev pub is_valid : (M : Machine) → M.Operation → M.Repository → List M.Write → Read M → Bool
is_valid M op D own r = M.same r.answer (value_now M op D own r)

-- All logged reads of the update are valid, if D is the repository below it.
abbrev pub all_valid : (M : Machine) → M.Repository → Update M → Bool
all_valid M D u = list_all (is_valid M u.operation D (M.own u.state)) u.log

-- The first element that passes, with its place from 1.
abbrev pub first_that : {A : Type 0} → (A → Bool) → List A → Option (ℕ × A)
first_that p [] = None
first_that p (x ∷ xs) = if p x then Some (1, x) else option_map (λ t. (suc t.0, t.1)) (first_that p xs)

-- A read that has another value now: its number in the log, from 1, its logged answer and its value now.
pub record Changed (M : Machine) : Type 0 where
  pub read : ℕ
  pub old : M.Reply
  pub new : M.Reply

-- The first logged read of the update that is not valid, if D is the repository below it.
abbrev pub changed_read : (M : Machine) → M.Repository → Update M → Option (Changed M)
changed_read M D u =
    option_map (λ t. record { read = t.0; old = t.1.answer; new = value_now M u.operation D (M.own u.state) t.1 })
    (first_that (λ r. not (is_valid M u.operation D (M.own u.state) r)) u.log)
