use Rattle.std.proofs.Common.{rules, tests}
use Rattle.std.proofs.lemmas.Iterator.Search.{any_from_yields_List}
use Rattle.def_chase.specs.Repository.{inserts}
use Rattle.def_chase.specs.Mappings.{force}
use Rattle.base_types.specs.Meanings.{change_of}
use Rattle.base_types.proofs.Iterated.{mapped_from_slice}
use Rattle.chase_eval.proofs.scopes.puts_in_force.Goals as goal

pub returns : goal.returns
returns c = record {
  answer = any_from_yields_List (inserts (force c.args.number)) c.any.new.self _ _ c.any.ensures.ran (mapped_from_slice change_of c.args.writes.now.items cc) (λ x b q k. search (rules, tests));
}
