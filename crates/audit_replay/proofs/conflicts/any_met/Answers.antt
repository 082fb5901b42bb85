use Rattle.std.proofs.Common.{◌∙◌, rules, tests}
use Rattle.std.proofs.lemmas.Iterator.Search.{any_from_yields_List}
use Rattle.base_types.proofs.Iterated.{mapped_from_slice}
use Rattle.base_types.specs.Contents.{rules_in}
use Rattle.chase_query.specs.Meanings.{reads_of}
use Rattle.chase_query.proofs.Entries.{any_in}
use Rattle.audit_replay.specs.Changes.{any_met, is_read_met}
use Rattle.audit_replay.proofs.conflicts.any_met.Goals as goal

pub returns : goal.returns
returns c =
    let ms = rules_in c.args.mappings.now in
    record {
      met = any_from_yields_List (any_met ms c.args.relations.now) c.any.new.self _ _ c.any.ensures.ran (mapped_from_slice reads_of c.args.log.now cc) (λ x b q k. search (rules, tests)) ∙ any_in (is_read_met ms c.args.relations.now) c.args.log.now;
    }
