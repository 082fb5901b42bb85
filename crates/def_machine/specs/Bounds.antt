-- Bounds of the numbers of attempts and steps of a history, and measures that fall with every step and delivery.
use Rattle.std.specs.Prelude.{◌≡◌, ℕ, suc, ◌+◌, ◌-◌, ◌*◌, ◌≤◌, ◌<◌, List, [], ◌∷◌, length}
use Rattle.def_machine.specs.Machine.{Machine}
use Rattle.def_machine.specs.Updates.{Update}
use Rattle.def_machine.specs.Effects.{Entry, Admitted, Stepped, Delivered, Answered, Withdrew}

-- 1 if the entry is a step, otherwise 0.
abbrev pub steps_of : {M : Machine} → Entry M → ℕ
steps_of (Admitted i) = 0
steps_of (Stepped e) = 1
steps_of (Delivered i s) = 0
steps_of (Answered i c s) = 0
steps_of (Withdrew i cs n) = 0

-- 1 if the entry is an admission, otherwise 0.
abbrev pub admissions_of : {M : Machine} → Entry M → ℕ
admissions_of (Admitted i) = 1
admissions_of (Stepped e) = 0
admissions_of (Delivered i s) = 0
admissions_of (Answered i c s) = 0
admissions_of (Withdrew i cs n) = 0

-- The number of steps among the entries.
abbrev pub steps_in : {M : Machine} → List (Entry M) → ℕ
steps_in [] = 0
steps_in (e ∷ es) = steps_of e + steps_in es

-- The number of admissions among the entries.
abbrev pub admissions_in : {M : Machine} → List (Entry M) → ℕ
admissions_in [] = 0
admissions_in (e ∷ es) = admissions_of e + admissions_in es

-- The number of steps that are left to the updates, in their present attempts and in the further ones that K retries allow.
abbrev pub left : (M : Machine) → ℕ → List (Update M) → ℕ
left M K [] = 0
left M K (u ∷ us) = ((suc K - u.attempt) * M.budget + (M.budget - M.count u.state)) + left M K us

-- The number of answers that wait in the inboxes.
abbrev pub waiting : (M : Machine) → List (Update M) → ℕ
waiting M [] = 0
waiting M (u ∷ us) = length u.inbox + waiting M us

-- If c updates are committed: no attempt number is above K + 1, and an attempt of number K + 1 has read nothing while a lower
-- update is not committed. The first of the list is update n.
abbrev pub AreTried : (M : Machine) → ℕ → ℕ → ℕ → List (Update M) → Type 0
AreTried M K c n [] = Unit {0}
AreTried M K c n (u ∷ us) = (u.attempt ≤ suc K) × (u.attempt ≡ suc K → suc c < n → u.log ≡ []) × AreTried M K c (suc n) us
