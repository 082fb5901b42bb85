-- The items that each call of a desk adds to the record.
use Rattle.std.specs.Prelude.{◌≡◌, ℕ, suc, false, [], ◌∷◌, ◌++◌, Option, Some, None}
use Rattle.def_machine.specs.Machine.{Machine}
use Rattle.def_machine.specs.Standings.{lowest_deliverable}
use Rattle.def_machine.specs.Effects.{Steps, Delivers, Effect, effect}
use Rattle.def_record.specs.Makers.{MadeBy}
use Rattle.def_record.specs.declared.item.Item.TheVariants.{Entered, Gave, Returned}
use Rattle.def_record.specs.Items.{Record, made}
use Rattle.def_record.specs.Tickets.{Ticket}
use Rattle.def_record.specs.Records.{Now, IsOpen, next_ticket, after_items, AllFollow}
use Rattle.def_record.specs.Stays.{IsOut}
use Rattle.def_record.specs.Answers.{Answer, Gives, Moves, Waits, Quiet, next_answer}

-- The entry of an event, made by seat j.
abbrev pub entry_by : {M : Machine} → ℕ → Option (Effect M) → Record M
entry_by j None = []
entry_by j (Some x) = made (Entered x.entry) (Some j) ∷ []

-- The items of a delivery to update u by seat j.
abbrev pub delivery_items : {M : Machine} → Now M → ℕ → ℕ → Record M
delivery_items {M} n j u = entry_by j (effect M n.settings n.session n.updates (Delivers u))

abbrev pub items_of_answer : {M : Machine} → Now M → ℕ → Answer → Record M
items_of_answer n j (Gives u) = made (Gave (suc n.given) u) (Some j) ∷ []
items_of_answer n j (Moves u) = delivery_items n j u
items_of_answer n j (Waits u) = []
items_of_answer n j Quiet = []

-- The items of `next` by seat j.
abbrev pub next_items : {M : Machine} → Now M → ℕ → Record M
next_items n j = items_of_answer n j (next_answer n)

-- The items of `give_back`, and of a `finish` whose plan is stale.
abbrev pub back_items : {M : Machine} → Ticket → Record M
back_items t = made (Returned t.number) (Some t.maker) ∷ []

-- The items of a `finish` that makes the step.
abbrev pub step_items : {M : Machine} → Now M → Ticket → Record M
step_items {M} n t = entry_by t.maker (effect M n.settings n.session n.updates (Steps t.update)) ++ back_items t

-- The items of each call may follow, and are made by the seat that calls.
pub record AreCalls (M : Machine) (n : Now M) : Type 0 where
  pub next : (j : ℕ) → AllFollow n (next_items n j)
  pub gave : (j u : ℕ) → next_answer n ≡ Gives u → IsOut (next_ticket n (suc n.given) u j) (after_items n (next_items n j))
  -- a delivery to the lowest update that can have one, also if another update is ready
  pub delivers : (j u : ℕ) → lowest_deliverable M n.settings n.updates ≡ Some u → AllFollow n (delivery_items n j u)
  pub step : (t : Ticket) → IsOut t n → t.used ≡ false → (x : Effect M) → effect M n.settings n.session n.updates (Steps t.update) ≡ Some x → AllFollow n (step_items n t)
  pub back : (t : Ticket) → IsOut t n → AllFollow n (back_items t)
  -- items that may follow leave the desk open, and further items that may follow then may also follow them directly: so two calls
  -- may share a turn
  pub goes_on : (is : Record M) → AllFollow n is → IsOpen (after_items n is)
  pub joined : (is js : Record M) → AllFollow n is → AllFollow (after_items n is) js → AllFollow n (is ++ js)
  pub next_made : (j : ℕ) → MadeBy j (next_items n j)
  pub step_made : (t : Ticket) → MadeBy t.maker (step_items n t)

-- This holds in every state of an open desk.
abbrev pub CallLaw : Machine → Type 0
CallLaw M = (n : Now M) → IsOpen n → AreCalls M n
