use Rattle.std.proofs.Common.{map, rules, tests}
use Rattle.std.proofs.lemmas.Iterator.Search.{any_from_yields_List}
use Rattle.base_types.specs.Meanings.{rule_of}
use Rattle.base_types.proofs.Iterated.{mapped_from_slice}
use Rattle.chase_query.specs.Meanings.{read_of}
use Rattle.core_conflict.specs.Trails.{writes_of}
use Rattle.core_cascade.specs.Reached.{is_reached}
use Rattle.core_cascade.proofs.lost.reaches_any.Goals as goal

pub returns : goal.returns
returns c =
    any_from_yields_List (is_reached (map rule_of c.args.mappings.now.items) (read_of c.args.read.now)) c.any.new.self _ _ c.any.ensures.ran (mapped_from_slice writes_of c.args.members.now cc) (λ x b q k. search (rules, tests))
