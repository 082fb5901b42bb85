-- The answers of taking a statement, compared with those of the definitions.
use Rattle.std.specs.Prelude.{◌≡◌, Result, Ok, Err}
use Rattle.def_language.specs.Faults.{Kind, PlainCycle, UnknownLabel, NullNotBelow}
use Rattle.lang_schema.specs.Answers as schema
use Rattle.lang_checks.specs.declared.refusals.TakeRefusal.{TakeRefusal}
use Rattle.lang_checks.specs.declared.refusals.TakeRefusal.TheVariants as refusal

-- a refusal is the fault that the definition gives; want of memory may come in place of any answer
abbrev pub Refuses : {Y : Type 0} → TakeRefusal → Result Y Kind → Type 0
Refuses (refusal.Schema e) found = schema.Refuses e found
Refuses (refusal.PlainCycle n) found = found ≡ Err (PlainCycle n.items)
Refuses (refusal.UnknownLabel n) found = found ≡ Err (UnknownLabel n.items)
Refuses (refusal.NullNotBelow u k) found = found ≡ Err (NullNotBelow u k)

-- an answer, seen by `view`, is the one that the definition gives
abbrev pub Gives : {X Y : Type 0} → (X → Y) → Result X TakeRefusal → Result Y Kind → Type 0
Gives view (Ok x) found = found ≡ Ok (view x)
Gives view (Err e) found = Refuses e found
