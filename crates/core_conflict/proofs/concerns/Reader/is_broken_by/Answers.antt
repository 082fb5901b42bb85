use Rattle.std.proofs.Common.{map, rules, tests}
use Rattle.std.proofs.lemmas.Iterator.Search.{any_from_yields_List}
use Rattle.base_types.proofs.Iterated.{mapped_from_slice}
use Rattle.base_types.specs.Contents.{rules_in}
use Rattle.base_types.specs.Meanings.{change_of, heading_of}
use Rattle.core_conflict.specs.Concerns.{breaks_some}
use Rattle.core_conflict.proofs.concerns.Reader.is_broken_by.Goals as goal

pub returns : goal.returns
returns c =
    any_from_yields_List (breaks_some (rules_in c.args.self.now.mappings.now) (heading_of c.args.self.now.direction) c.args.self.now.sense (map change_of c.args.self.now.own.now)) c.any.new.self _ _ c.any.ensures.ran (mapped_from_slice change_of c.args.writes.now cc) (λ x b q k. search (rules, tests))
