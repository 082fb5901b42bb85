use Rattle.std.proofs.Common.{◌≡◌, length}
use Rattle.std.specs.Option.{option_map, option_copied}
use Rattle.std.specs.Prelude.{find}
use Rattle.def_chase.specs.Queries.{holds_null}
use Rattle.base_types.specs.Candidates.{is_holding}
use Rattle.base_types.specs.Meanings.{fact_of}
use Rattle.set_facts.specs.Courses.{ahead}
use Rattle.set_facts.proofs.Courses.{above}
use Rattle.set_facts.proofs.group.GroupFacts.holding.Given as goal

-- What is ahead has the tuple that is wanted, if there is one.
abbrev pub invariant-loop-cursor : goal.invariant-loop-cursor
invariant-loop-cursor l =
    find (holds_null l.name.update l.name.place) (ahead above l.self (option_map fact_of (option_copied l.cursor)))
    ≡ find (is_holding l.name.update l.name.place (option_map fact_of (option_copied l.past))) l.self

-- How many tuples are ahead.
abbrev pub decreases-loop-cursor : goal.decreases-loop-cursor
decreases-loop-cursor l = length (ahead above l.self (option_map fact_of (option_copied l.cursor)))
