use Rattle.std.proofs.Common.{rules, tests}
use Rattle.std.proofs.lemmas.Iterator.Search.{any_from_yields_List}
use Rattle.base_types.specs.Meanings.{change_of}
use Rattle.base_types.proofs.Iterated.{mapped_from_slice}
use Rattle.chase_eval.specs.Watched.{may_enact}
use Rattle.chase_eval.proofs.applied.may_enact.Goals as goal

pub returns : goal.returns
returns c = record {
  any = any_from_yields_List may_enact c.any.new.self _ _ c.any.ensures.ran (mapped_from_slice change_of c.args.writes.now cc) (λ x b q k. search (rules, tests));
}
