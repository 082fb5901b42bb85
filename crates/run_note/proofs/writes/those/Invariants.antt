use Rattle.std.proofs.Common.{◌≡◌, map, filter}
use Rattle.def_chase.specs.Repository.{has}
use Rattle.base_types.specs.Meanings.{fact_of}
use Rattle.run_note.specs.Steps.{is_so, seen_in}
use Rattle.run_note.proofs.writes.those.Given as goal

-- The view is the same; those so far were kept that are wanted.
abbrev pub invariant-loop-tuple : goal.invariant-loop-tuple
invariant-loop-tuple l = record {
  same : l.view ≡ l.fn.view;
  kept : map fact_of l.those.items ≡ filter (λ t. is_so l.seen (has (seen_in l.fn.view) t)) (map fact_of l.yielded);
}
