use Rattle.std.proofs.Common.{rules, tests}
use Rattle.std.proofs.lemmas.Iterator.Search.{any_from_yields_List}
use Rattle.def_chase.specs.Queries.{is_named}
use Rattle.base_types.specs.Meanings.{datum_of}
use Rattle.base_types.proofs.Iterated.{mapped_from_slice}
use Rattle.base_types.proofs.tuples.Tuple.holds_null.Goals as goal

pub returns : goal.returns
returns c = record {
  answer = any_from_yields_List (is_named c.args.name.update c.args.name.place) c.any.new.self _ _ c.any.ensures.ran (mapped_from_slice datum_of c.args.self.now.values.items cc) (λ x b q k. search (rules, tests));
}
