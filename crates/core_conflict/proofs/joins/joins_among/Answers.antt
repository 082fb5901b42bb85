use Rattle.std.proofs.Common.{rules, tests}
use Rattle.std.proofs.lemmas.Iterator.Search.{any_from_yields_List}
use Rattle.base_types.proofs.Iterated.{mapped_from_slice}
use Rattle.base_types.specs.Meanings.{fact_of, pattern_of}
use Rattle.core_conflict.specs.Concerns.{stand_together}
use Rattle.core_conflict.proofs.joins.joins_among.Goals as goal

pub returns : goal.returns
returns c =
    any_from_yields_List (λ x. stand_together (pattern_of c.args.atom.now) (fact_of c.args.own.now) x (fact_of c.args.tuple.now)) c.any.new.self _ _ c.any.ensures.ran
    (mapped_from_slice pattern_of c.args.others.now cc) (λ x b q k. search (rules, tests))
