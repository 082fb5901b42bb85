use Rattle.std.proofs.Common.{map, rules, tests}
use Rattle.std.proofs.lemmas.Iterator.Search.{any_from_yields_List}
use Rattle.std.specs.List.{list_any}
use Rattle.base_types.proofs.Iterated.{mapped_from_slice}
use Rattle.base_types.specs.Contents.{rules_in}
use Rattle.base_types.specs.Meanings.{change_of, heading_of}
use Rattle.chase_query.specs.Meanings.{read_of}
use Rattle.core_conflict.specs.Concerns.{meets}
use Rattle.core_conflict.specs.Trails.{writes_of}
use Rattle.core_conflict.proofs.concerns.Reader.is_met.Goals as goal

pub returns : goal.returns
returns c =
    any_from_yields_List (list_any (meets (rules_in c.args.self.now.mappings.now) (heading_of c.args.self.now.direction) (map change_of c.args.self.now.own.now) c.args.self.now.sense (read_of c.args.read.now))) c.any.new.self _ _ c.any.ensures.ran
    (mapped_from_slice writes_of c.args.trails.now cc) (λ x b q k. search (rules, tests))
