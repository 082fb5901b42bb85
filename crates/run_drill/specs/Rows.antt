-- First draws, as an independent implementation makes them.
use Rattle.std.specs.Prelude.{◌≡◌, ℕ, ◌/◌, ◌^◌, pos, List, [], ◌∷◌, map}
use Rattle.def_chase.specs.Values.{Datum, Number}
use Rattle.def_chase.specs.Updates.{Operation, Adds, Removes}
use Rattle.def_language.specs.Sessions.{SessionUpdate}
use Rattle.run_drill.specs.Draws.{next}
use Rattle.run_drill.specs.Drilled.{fact, updates_from}

abbrev pub number : ℕ → Datum
number n = Number (pos n)

-- The operations of the first updates.
abbrev pub operations : ℕ → ℕ → List Operation
operations count seed = map (λ (u : SessionUpdate). u.operation) (updates_from 1 count seed)

pub record FirstDraws : Type 0 where
  pub state : next 7 ≡ 9098160460397411210
  pub upper : 9098160460397411210 / 2 ^ 33 ≡ 1059165278
  pub seven :
      operations 3 7
      ≡ Removes (fact 0 (number 31 ∷ number 13 ∷ [])) ∷ Adds (fact 0 (number 45 ∷ number 19 ∷ [])) ∷ Adds (fact 2 (number 164 ∷ number 39 ∷ [])) ∷ []
  pub highest :
      operations 4 4294967295
      ≡ Adds (fact 1 (number 16 ∷ number 4 ∷ []))
      ∷ Adds (fact 0 (number 20 ∷ number 19 ∷ []))
      ∷ Adds (fact 3 (number 40 ∷ number 43 ∷ number 0 ∷ []))
      ∷ Adds (fact 2 (number 2 ∷ number 13 ∷ []))
      ∷ []
