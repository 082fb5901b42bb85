use Rattle.std.proofs.Common.{◌≡◌, length}
use Rattle.std.specs.Option.{option_map, option_copied}
use Rattle.base_types.specs.Candidates.{column_of, further_candidates}
use Rattle.base_types.specs.Meanings.{fact_of}
use Rattle.def_chase.specs.Repository.{IsRepository}
use Rattle.set_facts.specs.Runs.{run_of}
use Rattle.set_facts.proofs.runs.Run.next_further.Given as goal

-- What is left of the run has the candidates that there were at the start.
abbrev pub invariant-loop-tuple : goal.invariant-loop-tuple
invariant-loop-tuple l = record {
  order : IsRepository (run_of l.self);
  same : further_candidates (run_of l.fn.self) l.relation (option_map column_of l.column) (option_map fact_of (option_copied l.past))
      ≡ further_candidates (run_of l.self) l.relation (option_map column_of l.column) (option_map fact_of (option_copied l.past));
}

abbrev pub decreases-loop-tuple : goal.decreases-loop-tuple
decreases-loop-tuple l = length (run_of l.self)
