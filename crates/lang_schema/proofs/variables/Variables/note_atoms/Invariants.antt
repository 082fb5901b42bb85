use Rattle.std.proofs.Common.{◌≡◌, take, map}
use Rattle.std.specs.Prelude.{fold}
use Rattle.def_language.specs.Names.{same_name, with_new}
use Rattle.def_language.specs.Meaning.{variables_in}
use Rattle.lang_schema.specs.Meanings.{atom_of}
use Rattle.lang_schema.proofs.variables.Variables.note_atoms.Given as goal

abbrev pub invariant-loop-atom : goal.invariant-loop-atom
invariant-loop-atom l = l.self ≡ fold (with_new same_name) l.initial.self (variables_in (map atom_of (take l.atom-index l.atoms)))
