-- Stretches: steps and deliveries that a seat makes in one turn.
use Rattle.std.specs.Prelude.{◌≡◌, ℕ, zero, suc, Bool, ◌++◌, Option, Some, None, Result, Ok, Err, IfOk}
use Rattle.def_record.specs.Items.{Record}
use Rattle.def_record.specs.Records.{Now, next_ticket, after_items}
use Rattle.def_record.specs.Answers.{Gives, next_answer}
use Rattle.def_record.specs.Calls.{delivery_items, next_items, step_items}
use Rattle.def_machine.specs.Machine.{Machine}
use Rattle.def_machine.specs.Standings.{lowest_deliverable}
use Rattle.def_history.specs.Cores.{Ground, machine}
use Rattle.work_desk.specs.declared.tickets.Stretch.{Stretch}
use Rattle.work_desk.specs.Shared.{Items, Shared, items_of}
use Rattle.work_desk.specs.Turns.{Adds}

-- The seat j is given the next ticket, for the update, makes its step and returns it.
abbrev pub whole_step : {M : Machine} → Now M → ℕ → ℕ → Record M
whole_step n j u = next_items n j ++ step_items (after_items n (next_items n j)) (next_ticket n (suc n.given) u j)

-- A whole step of the seat j turns the items xs into ys. Its update is the lowest ready one that is not in flight.
pub record HasMadeStep (j : ℕ) (g : Ground) (ys xs : Items) : Type 0 where
  pub now : Now (machine g)
  pub update : ℕ
  pub lowest : next_answer now ≡ Gives update
  pub adds : Adds j g xs ys now (whole_step now j update)

-- The seat j delivers an answer to the lowest update that waits for one, which turns the items xs into ys.
pub record HasMadeDelivery (j : ℕ) (g : Ground) (ys xs : Items) : Type 0 where
  pub now : Now (machine g)
  pub update : ℕ
  pub lowest : lowest_deliverable (machine g) now.settings now.updates ≡ Some update
  pub adds : Adds j g xs ys now (delivery_items now j update)

-- A move of the seat j: a whole step, or a delivery.
pub data HasMoved (j : ℕ) (g : Ground) (ys xs : Items) : Type 0 where
  Stepping : HasMadeStep j g ys xs → HasMoved j g ys xs
  Delivering : HasMadeDelivery j g ys xs → HasMoved j g ys xs

-- A given number of moves of the seat j in a row, from the items xs to ys.
abbrev pub HasMadeMoves : ℕ → ℕ → Ground → Items → Items → Type 0
HasMadeMoves zero j g ys xs = ys ≡ xs
HasMadeMoves (suc k) j g ys xs = (zs : Items) × HasMadeMoves k j g zs xs × HasMoved j g ys zs

-- A stretch of the seat j: moves in a row, as many as the result says. After an error the moves that were made stay.
pub record HasStretched {E : Type 0} (j : ℕ) (g : Ground) (r : Result Stretch E) (ys xs : Items) : Type 0 where
  pub count : ℕ
  pub moves : HasMadeMoves count j g ys xs
  pub told : IfOk r (λ s. s.made ≡ count)

-- One move, if there was one to make.
abbrev pub MakesMove : {E : Type 0} → ℕ → Ground → Result (Option Bool) E → Items → Items → Type 0
MakesMove j g (Ok (Some small)) ys xs = HasMoved j g ys xs
MakesMove j g (Ok None) ys xs = ys ≡ xs
MakesMove j g (Err e) ys xs = ys ≡ xs

-- ---- these facts for what the seats share

abbrev pub MadeStepOn : ℕ → Shared → Shared → Type 0
MadeStepOn j b b' = HasMadeStep j b.over (items_of b') (items_of b)

abbrev pub MadeDeliveryOn : ℕ → Shared → Shared → Type 0
MadeDeliveryOn j b b' = HasMadeDelivery j b.over (items_of b') (items_of b)

abbrev pub MakesMoveOn : {E : Type 0} → ℕ → Shared → Shared → Result (Option Bool) E → Type 0
MakesMoveOn j b b' r = MakesMove j b.over r (items_of b') (items_of b)

abbrev pub StretchOn : {E : Type 0} → ℕ → Shared → Shared → Result Stretch E → Type 0
StretchOn j b b' r = HasStretched j b.over r (items_of b') (items_of b)
