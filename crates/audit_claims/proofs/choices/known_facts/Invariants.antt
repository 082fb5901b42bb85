use Rattle.std.specs.Prelude.{◌≡◌, ◌++◌, map, drop}
use Rattle.std.specs.Option.{option_map}
use Rattle.base_types.specs.Meanings.{fact_of}
use Rattle.lang_forms.specs.Views.{fact_of as fact_meant}
use Rattle.audit_claims.specs.Choices.{known_facts}
use Rattle.audit_claims.proofs.choices.known_facts.Given as goal

abbrev pub invariant-loop-fact : goal.invariant-loop-fact
invariant-loop-fact l =
    known_facts l.schema (map fact_meant l.facts)
    ≡ option_map (λ ts. map fact_of l.tuples.items ++ ts) (known_facts l.schema (map fact_meant (drop l.fact-index l.facts)))
