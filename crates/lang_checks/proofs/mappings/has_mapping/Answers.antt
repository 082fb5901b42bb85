use Rattle.std.proofs.Common.{◌∙◌, ap, rules, sym, tests}
use Rattle.std.specs.List.{list_any}
use Rattle.std.proofs.lemmas.Iterator.Search.{any_from_yields_List}
use Rattle.base_types.proofs.Iterated.{mapped_from_slice}
use Rattle.def_language.specs.Names.{same_name}
use Rattle.lang_checks.proofs.Mapped.{names_are}
use Rattle.lang_checks.proofs.mappings.has_mapping.Goals as goal

pub returns : goal.returns
returns c = record {
  one = any_from_yields_List (same_name c.args.name.now.items) c.any.new.self _ _ c.any.ensures.ran (mapped_from_slice (λ m. m.name.items) c.args.mappings.now cc) (λ x b q k. search (rules, tests))
      ∙ ap (list_any (same_name c.args.name.now.items)) (sym (names_are c.args.mappings.now));
}
