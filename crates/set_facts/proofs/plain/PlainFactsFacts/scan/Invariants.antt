use Rattle.std.proofs.Common.{◌≡◌, length}
use Rattle.std.specs.Option.{option_map, option_copied}
use Rattle.std.specs.Prelude.{find}
use Rattle.def_chase.specs.Cursors.{is_past, is_scanned, scan_of}
use Rattle.base_types.specs.Meanings.{fact_of, datum_of}
use Rattle.set_facts.specs.Courses.{ahead}
use Rattle.set_facts.proofs.plain.PlainFactsFacts.scan.Given as goal

-- What is ahead finds what the whole set finds.
abbrev pub invariant-loop-cursor : goal.invariant-loop-cursor
invariant-loop-cursor l =
    find (is_scanned l.relation l.column (datum_of l.value) (option_map fact_of (option_copied l.past))) (ahead is_past l.self (option_map fact_of (option_copied l.cursor)))
    ≡ scan_of l.self l.relation l.column (datum_of l.value) (option_map fact_of (option_copied l.past))

abbrev pub decreases-loop-cursor : goal.decreases-loop-cursor
decreases-loop-cursor l = length (ahead is_past l.self (option_map fact_of (option_copied l.cursor)))
