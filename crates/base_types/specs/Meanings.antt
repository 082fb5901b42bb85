-- The meanings of the program's types, in the terms of the definitions of the chase.
use Rattle.std.specs.Prelude.{ℕ, ◌-◌, List, map, length}
use Rattle.base_types.specs.declared.nulls.Null.{Null as NullOfProgram}
use Rattle.base_types.specs.declared.nulls.OuterName.{OuterName}
use Rattle.base_types.specs.declared.values.Value.{Value}
use Rattle.base_types.specs.declared.values.Value.TheVariants.{Int, Word, Null}
use Rattle.base_types.specs.declared.substitutions.Assignment.{Assignment}
use Rattle.base_types.specs.declared.tuples.Tuple.{Tuple}
use Rattle.base_types.specs.declared.mappings.Term.{Term}
use Rattle.base_types.specs.declared.mappings.Term.TheVariants.{Var as VarTerm, Const as ConstTerm}
use Rattle.base_types.specs.declared.mappings.Atom.{Atom}
use Rattle.base_types.specs.declared.mappings.Mapping.{Mapping}
use Rattle.base_types.specs.declared.updates.Write.{Write}
use Rattle.base_types.specs.declared.updates.Write.TheVariants.{Insert as InsertWrite, Delete as DeleteWrite}
use Rattle.base_types.specs.declared.updates.Operation.{Operation as OperationOfProgram}
use Rattle.base_types.specs.declared.updates.Operation.TheVariants.{Insert as InsertTuple, Delete as DeleteTuple, Replace, Enact}
use Rattle.base_types.specs.declared.updates.Update.{Update}
use Rattle.base_types.specs.declared.updates.Choice.{Choice as ChoiceOfProgram}
use Rattle.base_types.specs.declared.updates.Choice.TheVariants.{Expand as ExpandChoice, Unify as UnifyChoice, Delete as DeleteChoice}
use Rattle.base_types.specs.declared.updates.Direction.{Direction as DirectionOfProgram}
use Rattle.base_types.specs.declared.updates.Direction.TheVariants.{Forward as ForwardDirection, Backward as BackwardDirection}
use Rattle.def_chase.specs.Values.{NullName, Datum, Number, Text, Unknown, Fact}
use Rattle.def_chase.specs.Repository.{Change, Insert, Delete}
use Rattle.def_chase.specs.Mappings.{Slot, Var, Const, Pattern, Rule}
use Rattle.def_chase.specs.Violations.{Direction, Forward, Backward}
use Rattle.def_chase.specs.Updates.{Operation, Adds, Removes, Replaces, Enacts, Choice, Expand, Unify, Drop}

-- The name of a null.
abbrev pub null_of : NullOfProgram → NullName
null_of n = record { update = n.update; attempt = n.attempt; place = n.place }

-- The null that a written `OuterName` stands for: that of attempt 0.
abbrev pub outer_null_of : OuterName → NullName
outer_null_of n = record { update = n.update; attempt = 0; place = n.place }

-- The value that a `Value` stands for.
abbrev pub datum_of : Value → Datum
datum_of (Int i) = Number i
datum_of (Word w) = Text w.items
datum_of (Null n) = Unknown (null_of n)

-- The null and the value that an `Assignment` pairs.
abbrev pub assignment_of : Assignment → NullName × Datum
assignment_of p = (null_of p.null, datum_of p.value)

-- The tuple that a `Tuple` stands for.
abbrev pub fact_of : Tuple → Fact
fact_of t = record { relation = t.relation; values = map datum_of t.values.items }

-- The term that a `Term` stands for.
abbrev pub slot_of : Term → Slot
slot_of (VarTerm v) = Var v
slot_of (ConstTerm d) = Const (datum_of d)

-- The atom that an `Atom` stands for.
abbrev pub pattern_of : Atom → Pattern
pattern_of a = record { relation = a.relation; terms = map slot_of a.terms.items }

-- The mapping that a `Mapping` stands for. Its variables that have a name and are not universal are existential. Names do not
-- bear on the chase.
abbrev pub rule_of : Mapping → Rule
rule_of m =
    record { since = m.since; universal = m.universal; existential = length m.names.items - m.universal; left = map pattern_of m.left.items; right = map pattern_of m.right.items }

-- A mapping with its name and the names of its variables by number.
pub record Named : Type 0 where
  pub name : List ℕ
  pub names : List (List ℕ)
  pub rule : Rule

-- The mapping that a `Mapping` stands for, with its names.
abbrev pub named_of : Mapping → Named
named_of m = record { name = m.name.items; names = map (λ n. n.items) m.names.items; rule = rule_of m }

-- The write that a `Write` stands for.
abbrev pub change_of : Write → Change
change_of (InsertWrite t) = Insert (fact_of t)
change_of (DeleteWrite t) = Delete (fact_of t)

-- The operation that an `Operation` stands for.
abbrev pub operation_of : OperationOfProgram → Operation
operation_of (InsertTuple t) = Adds (fact_of t)
operation_of (DeleteTuple t) = Removes (fact_of t)
operation_of (Replace n v) = Replaces (null_of n) (datum_of v)
operation_of (Enact m) = Enacts m

-- A request: its label, its curator, and its operation.
pub record Request : Type 0 where
  pub label : List ℕ
  pub curator : List ℕ
  pub operation : Operation

-- The request that an `Update` stands for.
abbrev pub request_of : Update → Request
request_of u = record { label = u.label.items; curator = u.curator.items; operation = operation_of u.operation }

-- The answer that a `Choice` stands for.
abbrev pub choice_of : ChoiceOfProgram → Choice
choice_of ExpandChoice = Expand
choice_of (UnifyChoice t) = Unify (fact_of t)
choice_of (DeleteChoice ts) = Drop (map fact_of ts.items)

-- The direction that a `Direction` stands for.
abbrev pub heading_of : DirectionOfProgram → Direction
heading_of ForwardDirection = Forward
heading_of BackwardDirection = Backward
