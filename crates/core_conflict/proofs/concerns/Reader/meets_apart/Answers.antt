use Rattle.std.proofs.Common.{◌∙◌, map, rules, tests}
use Rattle.std.proofs.lemmas.Iterator.Search.{any_from_yields_List}
use Rattle.base_types.proofs.Iterated.{mapped_from_slice}
use Rattle.base_types.specs.Contents.{rules_in}
use Rattle.base_types.specs.Meanings.{change_of, heading_of}
use Rattle.chase_query.specs.Meanings.{reads_of}
use Rattle.chase_query.proofs.Entries.{any_in}
use Rattle.core_conflict.specs.Changes.{meets_any_apart}
use Rattle.core_conflict.specs.Concerns.{is_met_apart}
use Rattle.core_conflict.specs.Trails.{trails_of}
use Rattle.core_conflict.proofs.concerns.Reader.meets_apart.Goals as goal

pub returns : goal.returns
returns c =
    let ms = rules_in c.args.self.now.mappings.now in
    let h = heading_of c.args.self.now.direction in
    let own = map change_of c.args.self.now.own.now in
    let trails = trails_of c.args.trails.now in
    any_from_yields_List (meets_any_apart ms h own c.args.self.now.sense trails) c.any.new.self _ _ c.any.ensures.ran (mapped_from_slice reads_of c.args.log.now cc) (λ x b q k. search (rules, tests))
    ∙ any_in (is_met_apart ms h own c.args.self.now.sense trails) c.args.log.now
