use Rattle.std.proofs.Common.{◌≡◌, map, drop}
use Rattle.std.specs.Prelude.{find}
use Rattle.def_chase.specs.Cursors.{is_of}
use Rattle.base_types.specs.Meanings.{fact_of}
use Rattle.set_facts.proofs.listed.ListedFacts.first.Given as goal

-- What is left finds what the whole set finds.
abbrev pub invariant-loop-tuple : goal.invariant-loop-tuple
invariant-loop-tuple l = find (is_of l.relation) (map fact_of (drop l.tuple-index l.tuple-items)) ≡ find (is_of l.relation) (map fact_of l.tuple-items)
