use Rattle.std.proofs.Common.{◌≡◌, map, drop}
use Rattle.std.specs.Option.{option_map, option_copied}
use Rattle.std.specs.Prelude.{find}
use Rattle.def_chase.specs.Cursors.{is_scanned}
use Rattle.base_types.specs.Meanings.{fact_of, datum_of}
use Rattle.set_facts.proofs.listed.ListedFacts.scan.Given as goal

-- What is left finds what the whole set finds.
abbrev pub invariant-loop-tuple : goal.invariant-loop-tuple
invariant-loop-tuple l =
    let p = is_scanned l.relation l.column (datum_of l.value) (option_map fact_of (option_copied l.past)) in
    find p (map fact_of (drop l.tuple-index l.tuple-items)) ≡ find p (map fact_of l.tuple-items)
