use Rattle.std.proofs.Common.{rules, tests}
use Rattle.std.specs.Prelude.{not}
use Rattle.std.proofs.lemmas.Iterator.Consumers.{YieldsList-from_filter, count_from_yields_List}
use Rattle.base_types.proofs.Iterated.{mapped_from_slice}
use Rattle.def_language.specs.Sessions.{is_initial}
use Rattle.lang_schema.specs.Meanings.{session_mapping_of}
use Rattle.lang_checks.proofs.mappings.added.Goals as goal

pub returns : goal.returns
returns c = record {
  count = count_from_yields_List _ c.count.result c.count.ensures.ran (YieldsList-from_filter _ (λ m. not (is_initial m)) (mapped_from_slice session_mapping_of c.args.mappings.now cc) c.filter.ensures.closure (λ x b q k. search (rules, tests)));
}
