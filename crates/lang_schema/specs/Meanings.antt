-- The meanings of mappings: as they are written, and over the relations.
use Rattle.std.specs.Prelude.{map}
use Rattle.lang_schema.specs.declared.written.RawTerm.{RawTerm}
use Rattle.lang_schema.specs.declared.written.RawTerm.TheVariants.{Var, Const}
use Rattle.lang_schema.specs.declared.written.RawAtom.{RawAtom}
use Rattle.lang_schema.specs.declared.written.RawAtoms.{RawAtoms}
use Rattle.base_types.specs.declared.mappings.Mapping.{Mapping}
use Rattle.base_types.specs.Meanings.{datum_of, rule_of}
use Rattle.def_language.specs.Statements.{WrittenTerm, Variable, Constant, WrittenAtom, WrittenMapping}
use Rattle.def_language.specs.Sessions.{SessionMapping}

-- the term that a `RawTerm` stands for
abbrev pub term_of : RawTerm → WrittenTerm
term_of (Var n) = Variable n.items
term_of (Const v) = Constant (datum_of v)

-- the atom that a `RawAtom` stands for
abbrev pub atom_of : RawAtom → WrittenAtom
atom_of a = record { relation = a.relation.items; terms = map term_of a.terms.items }

-- the mapping that the two sides stand for, with the name of the left one
abbrev pub mapping_written : RawAtoms → RawAtoms → WrittenMapping
mapping_written left right = record { name = left.name.items; left = map atom_of left.atoms.items; right = map atom_of right.atoms.items }

-- the mapping of a session that a `Mapping` stands for
abbrev pub session_mapping_of : Mapping → SessionMapping
session_mapping_of m = record { name = m.name.items; variables = map (λ n. n.items) m.names.items; rule = rule_of m }
