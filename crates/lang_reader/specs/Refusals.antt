-- The refusals of the layers below, as refusals of a line.
use Rattle.lang_forms.specs.declared.faults.FormRefusal.{FormRefusal}
use Rattle.lang_forms.specs.declared.faults.FormRefusal.TheVariants as form
use Rattle.lang_schema.specs.declared.refusals.SchemaRefusal.{SchemaRefusal}
use Rattle.lang_schema.specs.declared.refusals.SchemaRefusal.TheVariants as schema
use Rattle.lang_checks.specs.declared.refusals.TakeRefusal.{TakeRefusal}
use Rattle.lang_checks.specs.declared.refusals.TakeRefusal.TheVariants as statement
use Rattle.lang_reader.specs.declared.faults.FaultKind.TheVariants as fault
use Rattle.lang_reader.specs.declared.faults.LineRefusal.{LineRefusal}
use Rattle.lang_reader.specs.declared.faults.LineRefusal.TheVariants.{Fault, Memory}

-- words that have no form
abbrev pub of_form : FormRefusal → LineRefusal
of_form form.BadHeader = Fault fault.Header
of_form (form.Expected wanted) = Fault (fault.Expected wanted)
of_form form.Memory = Memory

-- a fact or a mapping that does not fit the relations, a name that is taken, or a limit
abbrev pub of_schema : SchemaRefusal → LineRefusal
of_schema (schema.UnknownRelation n) = Fault (fault.UnknownRelation n)
of_schema (schema.Arity n columns found) = Fault (fault.Arity n columns found)
of_schema schema.EmptySide = Fault fault.EmptySide
of_schema schema.TooManyAtoms = Fault fault.TooManyAtoms
of_schema (schema.DuplicateName n) = Fault (fault.DuplicateName n)
of_schema (schema.Limit which) = Fault (fault.LimitReached which)
of_schema schema.Memory = Memory

-- a statement that is not taken
abbrev pub of_statement : TakeRefusal → LineRefusal
of_statement (statement.Schema refused) = of_schema refused
of_statement (statement.PlainCycle n) = Fault (fault.PlainCycle n)
of_statement (statement.UnknownLabel n) = Fault (fault.UnknownLabel n)
of_statement (statement.NullNotBelow u k) = Fault (fault.NullNotBelow u k)
