use Rattle.std.proofs.Common.{◌≡◌, map, drop}
use Rattle.std.specs.List.{list_any}
use Rattle.lang_schema.specs.Meanings.{term_of}
use Rattle.run_ask.specs.Written.{is_variable}
use Rattle.run_ask.proofs.parsing.stands_in_atom.Given as goal

-- No term before the place is the variable.
abbrev pub invariant-loop-term : goal.invariant-loop-term
invariant-loop-term l = list_any (is_variable l.name.items) (map term_of (drop l.term-index l.term-items)) ≡ list_any (is_variable l.name.items) (map term_of l.atom.terms.items)
