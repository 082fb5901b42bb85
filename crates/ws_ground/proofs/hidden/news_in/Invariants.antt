use Rattle.std.proofs.Common.{◌≡◌, map, drop}
use Rattle.def_workspace.specs.Ops.{new_in}
use Rattle.def_workspace.specs.Places.{greater}
use Rattle.ws_lines.specs.Meanings.{spelled_of}
use Rattle.ws_ground.proofs.hidden.news_in.Given as goal

-- The greatest number is that so far or that of those which are left.
abbrev pub invariant-loop-value : goal.invariant-loop-value
invariant-loop-value l = greater l.most (new_in (map spelled_of (drop l.value-index l.values))) ≡ new_in (map spelled_of l.values)
