use Rattle.std.proofs.Common.{◌≡◌, map, drop}
use Rattle.std.specs.List.{list_any}
use Rattle.lang_schema.specs.Meanings.{atom_of}
use Rattle.run_ask.specs.Written.{stands_in_atom}
use Rattle.run_ask.proofs.parsing.stands_in.Given as goal

-- The variable stands in no atom before the place.
abbrev pub invariant-loop-atom : goal.invariant-loop-atom
invariant-loop-atom l = list_any (stands_in_atom l.name.items) (map atom_of (drop l.atom-index l.atoms)) ≡ list_any (stands_in_atom l.name.items) (map atom_of l.atoms)
