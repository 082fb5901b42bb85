use Rattle.std.proofs.Common.{◌≡◌, take, map}
use Rattle.std.specs.Prelude.{fold, flat_map}
use Rattle.def_language.specs.Names.{same_name, with_new}
use Rattle.def_language.specs.Meaning.{variable_of}
use Rattle.lang_schema.specs.Meanings.{term_of}
use Rattle.lang_schema.proofs.variables.Variables.note_atom.Given as goal

abbrev pub invariant-loop-term : goal.invariant-loop-term
invariant-loop-term l = l.self ≡ fold (with_new same_name) l.initial.self (flat_map variable_of (map term_of (take l.term-index l.term-items)))
