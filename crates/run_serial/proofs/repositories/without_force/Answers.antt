use Rattle.std.proofs.Common.{rules, tests, ◌∙◌, ◌==◌, ap, map, refl, sym, not}
use Rattle.std.proofs.lemmas.Fn.{filter_same}
use Rattle.def_chase.proofs.Maps.{filter_map}
use Rattle.base_types.specs.Meanings.{fact_of}
use Rattle.def_chase.specs.Mappings.{force_relation}
use Rattle.def_steps.specs.Serial.{answered}
use Rattle.run_serial.proofs.repositories.without_force.Goals as goal

pub returns : goal.returns
returns c = record {
  others =
      ap (map fact_of) (c.from_vec.ensures.same ∙ filter_same _ (λ t. not (t.relation == force_relation)) _ (λ x b q h. search (rules, tests)) _ _ c.retain.ensures.filtered)
      ∙ sym (filter_map fact_of (λ t. not (t.relation == force_relation)) (λ t. not (t.relation == force_relation)) (λ t. refl) c.into_vec-others.result.items)
      ∙ ap (λ ts. answered (map fact_of ts)) c.into_vec-others.ensures.same;
}
