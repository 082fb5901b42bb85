use Rattle.std.proofs.Common.{rules, tests}
use Rattle.std.proofs.lemmas.Iterator.Search.{any_from_yields_List}
use Rattle.base_types.proofs.Iterated.{mapped_from_slice}
use Rattle.base_types.specs.Meanings.{change_of}
use Rattle.core_conflict.specs.Concerns.{may_enact}
use Rattle.core_conflict.proofs.joins.may_enact_any.Goals as goal

pub returns : goal.returns
returns c = any_from_yields_List may_enact c.any.new.self _ _ c.any.ensures.ran (mapped_from_slice change_of c.args.own.now cc) (λ x b q k. search (rules, tests))
