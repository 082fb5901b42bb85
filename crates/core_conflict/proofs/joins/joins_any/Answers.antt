use Rattle.std.proofs.Common.{map, rules, tests}
use Rattle.std.proofs.lemmas.Iterator.Search.{any_from_yields_List}
use Rattle.base_types.proofs.Iterated.{mapped_from_slice}
use Rattle.base_types.specs.Meanings.{change_of, fact_of, heading_of, pattern_of, rule_of}
use Rattle.core_conflict.specs.Concerns.{joins}
use Rattle.core_conflict.proofs.joins.joins_any.Goals as goal

pub returns : goal.returns
returns c =
    any_from_yields_List (joins (heading_of c.args.direction) (map pattern_of c.args.atoms.now) (rule_of c.args.mapping.now) (fact_of c.args.tuple.now)) c.any.new.self _ _ c.any.ensures.ran (mapped_from_slice change_of c.args.own.now cc) (λ x b q k. search (rules, tests))
