-- A refusal of one check is that of another which has its faults.
use Rattle.std.proofs.Common.{◌≡◌}
use Rattle.std.specs.Prelude.{Result, Err}
use Rattle.def_language.specs.Faults.{Kind}
use Rattle.lang_schema.specs.Answers as schema
use Rattle.lang_schema.specs.declared.refusals.SchemaRefusal.{SchemaRefusal}
use Rattle.lang_schema.specs.declared.refusals.SchemaRefusal.TheVariants as inner
use Rattle.lang_checks.specs.declared.refusals.TakeRefusal.{TakeRefusal}
use Rattle.lang_checks.specs.declared.refusals.TakeRefusal.TheVariants as refusal
use Rattle.lang_checks.specs.Answers.{Refuses}

carried_schema : {A B : Type 0} (e : SchemaRefusal) (r : Result A Kind) (s : Result B Kind) → ((k : Kind) → r ≡ Err k → s ≡ Err k) → schema.Refuses e r → schema.Refuses e s
carried_schema (inner.UnknownRelation n) r s all f = all _ f
carried_schema (inner.Arity n columns count) r s all f = all _ f
carried_schema inner.EmptySide r s all f = all _ f
carried_schema inner.TooManyAtoms r s all f = all _ f
carried_schema (inner.DuplicateName n) r s all f = all _ f
carried_schema (inner.Limit which) r s all f = all _ f
carried_schema inner.Memory r s all f = tt

pub carried : {A B : Type 0} (e : TakeRefusal) (r : Result A Kind) (s : Result B Kind) → ((k : Kind) → r ≡ Err k → s ≡ Err k) → Refuses e r → Refuses e s
carried (refusal.Schema e) r s all f = carried_schema e r s all f
carried (refusal.PlainCycle n) r s all f = all _ f
carried (refusal.UnknownLabel n) r s all f = all _ f
carried (refusal.NullNotBelow u k) r s all f = all _ f
