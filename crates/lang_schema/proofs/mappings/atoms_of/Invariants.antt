use Rattle.std.proofs.Common.{◌≡◌, drop, map}
use Rattle.base_types.specs.Meanings.{pattern_of as pattern_meant}
use Rattle.def_language.specs.Reading.{each}
use Rattle.def_language.specs.Meaning.{pattern_of}
use Rattle.lang_schema.specs.Meanings.{atom_of}
use Rattle.lang_schema.proofs.Eached.{after}
use Rattle.lang_schema.proofs.mappings.atoms_of.Given as goal

abbrev pub invariant-loop-atom : goal.invariant-loop-atom
invariant-loop-atom l = after (map pattern_meant l.found.items) (each (pattern_of l.schema l.variables) (map atom_of (drop l.atom-index l.atoms))) ≡ each (pattern_of l.schema l.variables) (map atom_of l.atoms)
