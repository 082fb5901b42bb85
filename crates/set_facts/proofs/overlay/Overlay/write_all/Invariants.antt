use Rattle.std.proofs.Common.{◌≡◌, map, take, drop}
use Rattle.def_chase.specs.Repository.{apply}
use Rattle.base_types.specs.Meanings.{change_of}
use Rattle.set_facts.proofs.overlay.Overlay.write_all.Given as goal

-- The writes that are left make what all writes make, and those before them were made.
abbrev pub invariant-loop-write : goal.invariant-loop-write
invariant-loop-write g l = record {
  left : apply l.self (map change_of (drop l.write-index l.writes)) ≡ apply l.fn.self (map change_of l.writes);
  made : l.self ≡ apply l.fn.self (map change_of (take l.write-index l.writes));
}
