-- The answers of the calls of a schema, compared with those of the definitions.
use Rattle.std.specs.Prelude.{◌≡◌, Result, Ok, Err}
use Rattle.lang_schema.specs.declared.refusals.SchemaRefusal.{SchemaRefusal}
use Rattle.lang_schema.specs.declared.refusals.SchemaRefusal.TheVariants as refusal
use Rattle.def_language.specs.Faults.{Kind, UnknownRelation, Arity, EmptySide, TooManyAtoms, DuplicateName, LimitReached}

-- a refusal is the fault that the definition gives; want of memory may come in place of any answer
abbrev pub Refuses : {Y : Type 0} → SchemaRefusal → Result Y Kind → Type 0
Refuses (refusal.UnknownRelation n) read = read ≡ Err (UnknownRelation n.items)
Refuses (refusal.Arity n columns found) read = read ≡ Err (Arity n.items columns found)
Refuses refusal.EmptySide read = read ≡ Err EmptySide
Refuses refusal.TooManyAtoms read = read ≡ Err TooManyAtoms
Refuses (refusal.DuplicateName n) read = read ≡ Err (DuplicateName n.items)
Refuses (refusal.Limit which) read = read ≡ Err (LimitReached which)
Refuses refusal.Memory read = Unit {0}

-- an answer, seen by `view`, is the one that the definition gives
abbrev pub Gives : {X Y : Type 0} → (X → Y) → Result X SchemaRefusal → Result Y Kind → Type 0
Gives view (Ok x) read = read ≡ Ok (view x)
Gives view (Err e) read = Refuses e read
