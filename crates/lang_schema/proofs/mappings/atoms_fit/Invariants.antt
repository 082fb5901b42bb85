use Rattle.std.proofs.Common.{◌≡◌, drop, map}
use Rattle.lang_schema.specs.Meanings.{atom_of}
use Rattle.lang_schema.specs.Relations.{atoms_fit}
use Rattle.lang_schema.proofs.mappings.atoms_fit.Given as goal

abbrev pub invariant-loop-atom : goal.invariant-loop-atom
invariant-loop-atom l = atoms_fit l.schema (map atom_of (drop l.atom-index l.atoms)) ≡ atoms_fit l.schema (map atom_of l.atoms)
