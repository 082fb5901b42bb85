use Rattle.std.proofs.Common.{◌≡◌, map, drop}
use Rattle.std.specs.List.{list_all}
use Rattle.lang_schema.specs.Meanings.{atom_of}
use Rattle.run_ask.specs.Written.{stands_in}
use Rattle.run_ask.proofs.parsing.all_stand_in.Given as goal

-- All names before the place stand in the atoms.
abbrev pub invariant-loop-name : goal.invariant-loop-name
invariant-loop-name l = list_all (stands_in (map atom_of l.atoms)) (map (λ n. n.items) (drop l.name-index l.names)) ≡ list_all (stands_in (map atom_of l.atoms)) (map (λ n. n.items) l.names)
