use Rattle.std.proofs.Common.{map, rules, tests}
use Rattle.std.proofs.lemmas.Iterator.Search.{any_from_yields_List}
use Rattle.base_types.proofs.Iterated.{mapped_from_slice}
use Rattle.base_types.specs.Meanings.{change_of, heading_of, rule_of}
use Rattle.core_conflict.specs.Concerns.{breaks}
use Rattle.core_conflict.proofs.joins.breaks_some.Goals as goal

pub returns : goal.returns
returns c =
    any_from_yields_List (λ m. breaks (heading_of c.args.direction) m c.args.sense (map change_of c.args.own.now) (change_of c.args.write.now)) c.any.new.self _ _ c.any.ensures.ran (mapped_from_slice rule_of c.args.mappings.now.items cc) (λ x b q k. search (rules, tests))
