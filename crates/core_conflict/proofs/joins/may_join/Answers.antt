use Rattle.std.proofs.Common.{map, rules, tests}
use Rattle.std.proofs.lemmas.Iterator.Search.{any_from_yields_List}
use Rattle.std.specs.List.{list_any}
use Rattle.base_types.proofs.Iterated.{mapped_from_slice}
use Rattle.base_types.specs.Meanings.{fact_of, pattern_of}
use Rattle.core_conflict.specs.Concerns.{stand_together}
use Rattle.core_conflict.proofs.joins.may_join.Goals as goal

pub returns : goal.returns
returns c =
    any_from_yields_List (λ a. list_any (λ x. stand_together a (fact_of c.args.own.now) x (fact_of c.args.tuple.now)) (map pattern_of c.args.atoms.now)) c.any.new.self _ _ c.any.ensures.ran
    (mapped_from_slice pattern_of c.args.seats.now cc) (λ x b q k. search (rules, tests))
