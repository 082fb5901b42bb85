use Rattle.std.proofs.Common.{◌∙◌, map, rules, tests}
use Rattle.std.specs.List.{list_any}
use Rattle.std.proofs.lemmas.Iterator.Search.{any_from_yields_List}
use Rattle.base_types.specs.Meanings.{rule_of}
use Rattle.base_types.proofs.Iterated.{mapped_from_slice}
use Rattle.chase_query.specs.Meanings.{reads_of}
use Rattle.chase_query.specs.Mentioning.{mentioned}
use Rattle.chase_query.proofs.Entries.{any_in}
use Rattle.work_stale.proofs.stale.is_read.Goals as goal

pub returns : goal.returns
returns c =
    let test = mentioned (map rule_of c.args.mappings.now.items) c.args.relation in
    any_from_yields_List (list_any test) c.any.new.self _ _ c.any.ensures.ran (mapped_from_slice reads_of c.args.reads.now cc) (λ x b q k. search (rules, tests)) ∙ any_in test c.args.reads.now
