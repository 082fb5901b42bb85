use Rattle.std.proofs.Common.{◌≡◌, map, drop}
use Rattle.def_workspace.specs.Places.{greater, greatest as greatest_of}
use Rattle.ws_names.specs.Meanings.{place_of}
use Rattle.ws_names.proofs.places.greatest.Given as goal

-- The greatest place is that so far or that of those which are left.
abbrev pub invariant-loop-place : goal.invariant-loop-place
invariant-loop-place l = greater l.most (greatest_of (map place_of (drop l.place-index l.places))) ≡ greatest_of (map place_of l.places)
