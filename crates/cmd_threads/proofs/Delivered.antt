-- An output that is made of no input and delivered has the row of its status.
use Rattle.std.proofs.Common.{◌≡◌, ◌≤◌, ℕ, List, [], inl, inr, refl, sym, subst, arith}
use Rattle.cmd_frame.specs.Devices.{Change, GivesAll, Takes, TakesNothing, TakesSome, Tells, no_input}
use Rattle.cmd_frame.specs.Outputs.{Meaning, OutputView, Text, Refused}
use Rattle.cmd_frame.specs.Rows.{Delivers, Row}
use Rattle.cmd_frame.specs.Statuses.{status_of_ending, status_of_refusal}
use Rattle.cmd_frame.specs.declared.outputs.Ending.{Ending}
use Rattle.cmd_frame.specs.declared.outputs.Ending.TheVariants as endings
use Rattle.cmd_frame.specs.declared.outputs.Refusal.{Refusal}
use Rattle.cmd_frame.specs.declared.outputs.Refusal.TheVariants as refusals
use Rattle.cmd_frame.specs.declared.performing.TheConstants.{INPUT_LIMIT}
use Rattle.cmd_frame.specs.declared.statuses.Status.{Status}
use Rattle.cmd_frame.specs.declared.statuses.Status.TheVariants.{WriteFault}

no_length : 0 ≤ INPUT_LIMIT
no_length = omega arith

all_given : (holds : List ℕ → Type 0) → holds [] → GivesAll INPUT_LIMIT no_input holds
all_given holds it = ([], refl, refl, no_length, it)

ended : (e : Ending) (t : List ℕ) (gives : Meaning) (out err : Change) → gives [] (Text e t) → Takes out t → TakesNothing err
    → Row (status_of_ending e) gives no_input out err
ended endings.Ended t gives out err it takes nothing =
    (all_given (λ input. (text : List ℕ) × gives input (Text endings.Ended text) × Takes out text) (t, it, takes), nothing)
ended endings.Stuck t gives out err it takes nothing =
    (all_given (λ input. (text : List ℕ) × gives input (Text endings.Stuck text) × Takes out text) (t, it, takes), nothing)
ended endings.Refuted t gives out err it takes nothing =
    (all_given (λ input. (text : List ℕ) × gives input (Text endings.Refuted text) × Takes out text) (t, it, takes), nothing)

refused_as : (r : Refusal) (l : List ℕ) (gives : Meaning) (out err : Change) → gives [] (Refused r l) → Tells err l
    → GivesAll INPUT_LIMIT no_input (λ input. (line : List ℕ) × gives input (Refused r line) × Tells err line)
refused_as r l gives out err it tells = all_given (λ input. (line : List ℕ) × gives input (Refused r line) × Tells err line) (l, it, tells)

refused : (r : Refusal) (l : List ℕ) (gives : Meaning) (out err : Change) → gives [] (Refused r l) → TakesNothing out → Tells err l
    → Row (status_of_refusal r) gives no_input out err
refused refusals.SessionRefused l gives out err it nothing tells = (refused_as refusals.SessionRefused l gives out err it tells, nothing)
refused refusals.BaseViolates l gives out err it nothing tells = (refused_as refusals.BaseViolates l gives out err it tells, nothing)
refused refusals.TooLarge l gives out err it nothing tells = (refused_as refusals.TooLarge l gives out err it tells, nothing)
refused refusals.QueryRefused l gives out err it nothing tells = (refused_as refusals.QueryRefused l gives out err it tells, nothing)
refused refusals.Damaged l gives out err it nothing tells = (refused_as refusals.Damaged l gives out err it tells, nothing)

pub delivered : (output : OutputView) (status : Status) (gives : Meaning) (out err : Change) → gives [] output → Delivers status output out err
    → Row status gives no_input out err
delivered (Text e t) status gives out err it (inl written) =
    subst (λ (k : Status). Row k gives no_input out err) (sym written.0) (ended e t gives out err it written.1 written.2)
delivered (Text e t) status gives out err it (inr torn) =
    subst (λ (k : Status). Row k gives no_input out err) (sym torn.0)
    (all_given (λ input. (ending : Ending) × (text : List ℕ) × gives input (Text ending text) × TakesSome out text) (e, t, it, torn.2), torn.1, torn.3)
delivered (Refused r l) status gives out err it told =
    subst (λ (k : Status). Row k gives no_input out err) (sym told.0) (refused r l gives out err it told.1 told.2)
