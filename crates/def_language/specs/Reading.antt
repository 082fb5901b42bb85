-- The results of reading: the thing read, or the first fault.
use Rattle.std.specs.Prelude.{ℕ, zero, suc, Bool, Result, Ok, Err, List, [], ◌∷◌, ◌++◌, if◌then◌else◌}
use Rattle.def_language.specs.declared.Wanted.{Wanted}
use Rattle.def_language.specs.Faults.{Kind, Expected}
use Rattle.def_language.specs.Words.{Word}

-- the result of reading, passed on to `next`; a fault stays
infixl 10 ◌>>=◌
abbrev pub ◌>>=◌ : {A B : Type 0} → Result A Kind → (A → Result B Kind) → Result B Kind
(Ok x) >>= next = next x
(Err kind) >>= next = Err kind

-- the fault that this is missing
abbrev pub wants : {A : Type 0} → Wanted → Result A Kind
wants wanted = Err (Expected wanted)

-- the items, followed by those that are read
abbrev pub with_front : {A R : Type 0} → List A → Result (List A × R) Kind → Result (List A × R) Kind
with_front front read = read >>= (λ x. Ok (front ++ x.0, x.1))

-- An item, and then at most n others, as long as `one` says that a comma followed the last. `one` reads an item and the sign
-- after it, and gives the item, whether the sign was a comma, and the words after it.
unfoldable pub many : {A : Type 0} → ℕ → (List Word → Result (A × Bool × List Word) Kind) → List Word → Result (List A × List Word) Kind
many zero one words = one words >>= (λ x. Ok (x.0 ∷ [], x.2))
many (suc n) one words = one words >>= (λ x. if x.1 then with_front (x.0 ∷ []) (many n one x.2) else Ok (x.0 ∷ [], x.2))

-- each item checked from left to right, up to the first fault
unfoldable pub each : {A B : Type 0} → (A → Result B Kind) → List A → Result (List B) Kind
each check [] = Ok []
each check (x ∷ xs) = check x >>= (λ y. each check xs >>= (λ ys. Ok (y ∷ ys)))
