use Rattle.std.proofs.Common.{◌≡◌, take, map}
use Rattle.base_types.specs.Meanings.{slot_of as slot_meant}
use Rattle.def_language.specs.Meaning.{slot_of}
use Rattle.lang_schema.specs.Meanings.{term_of}
use Rattle.lang_schema.proofs.variables.Variables.terms.Given as goal

abbrev pub invariant-loop-term : goal.invariant-loop-term
invariant-loop-term l = map slot_meant l.row.items ≡ map (slot_of l.self) (map term_of (take l.term-index l.terms))
