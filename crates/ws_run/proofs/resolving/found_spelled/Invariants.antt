use Rattle.std.proofs.Common.{◌≡◌, List, ◌++◌, map, drop}
use Rattle.base_types.specs.Meanings.{fact_of}
use Rattle.def_chase.specs.Values.{Fact}
use Rattle.def_workspace.specs.Ops.{Course, Going, with_spelled}
use Rattle.ws_lines.specs.Meanings.{spelled_fact_of}
use Rattle.ws_run.specs.Finding.{IsOver}
use Rattle.ws_run.proofs.resolving.found_spelled.Given as goal

-- All are those so far and those that are left.
abbrev pub invariant-loop-tuple : goal.invariant-loop-tuple
invariant-loop-tuple l =
    (c : Course) → IsOver l.ground c → (f : List Fact → Going)
    → with_spelled l.first c (map spelled_fact_of (drop l.tuple-index l.tuples)) (λ us. f (map fact_of l.all.items ++ us)) ≡ with_spelled l.first c (map spelled_fact_of l.tuples) f
