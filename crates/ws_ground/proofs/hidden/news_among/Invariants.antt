use Rattle.std.proofs.Common.{◌≡◌, map, drop}
use Rattle.def_workspace.specs.Ops.{new_among}
use Rattle.def_workspace.specs.Places.{greater}
use Rattle.ws_lines.specs.Meanings.{spelled_fact_of}
use Rattle.ws_ground.proofs.hidden.news_among.Given as goal

-- The greatest number is that so far or that of those which are left.
abbrev pub invariant-loop-tuple : goal.invariant-loop-tuple
invariant-loop-tuple l = greater l.most (new_among (map spelled_fact_of (drop l.tuple-index l.tuples))) ≡ new_among (map spelled_fact_of l.tuples)
