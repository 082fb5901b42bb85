use Rattle.std.proofs.Common.{◌∙◌, rules, tests}
use Rattle.std.specs.List.{list_any}
use Rattle.std.proofs.lemmas.Iterator.{YieldsList-from_slice}
use Rattle.std.proofs.lemmas.Iterator.Search.{any_from_yields_List}
use Rattle.base_types.specs.Contents.{rules_in}
use Rattle.chase_query.specs.Meanings.{reads_of}
use Rattle.chase_query.specs.Mentioning.{mentioned}
use Rattle.audit_replay.proofs.Swapped.{any_swapped}
use Rattle.audit_replay.proofs.relations.is_any_met.Goals as goal

pub returns : goal.returns
returns c =
    let ms = rules_in c.args.mappings.now in
    let reads = reads_of c.args.entry.now in
    record {
      met =
          any_from_yields_List (λ k. list_any (mentioned ms k) reads) c.any.new.self _ _ c.any.ensures.ran (YieldsList-from_slice c.args.relations.now cc) (λ x b q k. search (rules, tests))
          ∙ any_swapped (mentioned ms) c.args.relations.now reads;
    }
