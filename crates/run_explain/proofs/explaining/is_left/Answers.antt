use Rattle.std.proofs.Common.{rules, tests}
use Rattle.std.proofs.lemmas.Iterator.Search.{any_from_yields_List}
use Rattle.def_chase.specs.Values.{same_fact}
use Rattle.base_types.specs.Meanings.{fact_of}
use Rattle.base_types.proofs.Iterated.{mapped_from_slice}
use Rattle.run_explain.proofs.explaining.is_left.Goals as goal

pub returns : goal.returns
returns c = record {
  there = any_from_yields_List (same_fact (fact_of c.args.tuple.now)) c.any.new.self _ _ c.any.ensures.ran (mapped_from_slice fact_of c.args.told.now.repository.items cc) (λ x b q k. search (rules, tests));
}
