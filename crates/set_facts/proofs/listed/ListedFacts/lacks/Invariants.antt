use Rattle.std.proofs.Common.{◌≡◌, map, drop}
use Rattle.std.specs.Option.{option_map}
use Rattle.std.specs.Prelude.{find}
use Rattle.base_types.specs.Candidates.{column_of, is_candidate}
use Rattle.base_types.specs.Meanings.{fact_of}
use Rattle.set_facts.proofs.listed.ListedFacts.lacks.Given as goal

-- What is left finds what the whole set finds.
abbrev pub invariant-loop-tuple : goal.invariant-loop-tuple
invariant-loop-tuple l =
    let p = is_candidate l.relation (option_map column_of l.column) in
    find p (map fact_of (drop l.tuple-index l.tuple-items)) ≡ find p (map fact_of l.tuple-items)
