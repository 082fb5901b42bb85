use Rattle.std.proofs.Common.{rules, tests, ◌∙◌, ◌==◌, ap, filter, map, refl, sym}
use Rattle.std.proofs.lemmas.Fn.{filter_same}
use Rattle.def_language.specs.Sessions.{is_initial}
use Rattle.def_chase.proofs.Maps.{filter_map}
use Rattle.lang_schema.specs.Meanings.{session_mapping_of}
use Rattle.cmd_plain.proofs.journaling.initial_mappings.Goals as goal

pub returns : goal.returns
returns c =
    ap (map session_mapping_of) (c.from_vec.ensures.same ∙ filter_same _ (λ m. m.since == 0) _ (λ x b q h. search (rules, tests)) _ _ c.retain.ensures.filtered)
    ∙ sym (filter_map session_mapping_of is_initial (λ m. m.since == 0) (λ m. refl) c.into_vec-kept.result.items)
    ∙ ap (λ ms. filter is_initial (map session_mapping_of ms)) c.into_vec-kept.ensures.same
