use Rattle.std.proofs.Common.{◌≡◌, not, map, filter}
use Rattle.base_types.specs.Meanings.{fact_of}
use Rattle.def_chase.specs.Repository.{has}
use Rattle.run_explain.proofs.seeking.take_out.Given as goal

-- Of those so far what was sought is taken, and nothing else.
abbrev pub invariant-loop-tuple : goal.invariant-loop-tuple
invariant-loop-tuple l = record {
  left : l.sought ≡ filter (λ t. not (has (map fact_of l.yielded) t)) l.fn.sought;
  taken : l.taken ≡ filter (has (map fact_of l.yielded)) l.fn.sought;
}
