use Rattle.std.proofs.Common.{◌≡◌, map, drop}
use Rattle.std.specs.Option.{option_map, option_copied}
use Rattle.std.specs.Prelude.{find}
use Rattle.def_chase.specs.Cursors.{is_beyond}
use Rattle.base_types.specs.Meanings.{fact_of}
use Rattle.set_facts.proofs.listed.ListedFacts.beyond.Given as goal

-- What is left finds what the whole set finds.
abbrev pub invariant-loop-tuple : goal.invariant-loop-tuple
invariant-loop-tuple l =
    let p = is_beyond (option_map fact_of (option_copied l.past)) in
    find p (map fact_of (drop l.tuple-index l.tuple-items)) ≡ find p (map fact_of l.tuple-items)
