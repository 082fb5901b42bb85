use Rattle.std.proofs.Common.{◌≡◌, map}
use Rattle.std.specs.Prelude.{Ok}
use Rattle.base_types.specs.Meanings.{fact_of as fact_meant}
use Rattle.def_language.specs.Meaning.{bounded_fact}
use Rattle.def_language.specs.Reading.{each}
use Rattle.lang_forms.specs.Views.{fact_of}
use Rattle.lang_checks.proofs.facts.bounded_facts.Given as goal

abbrev pub invariant-loop-fact : goal.invariant-loop-fact
invariant-loop-fact l = each (bounded_fact l.schema l.most) (map fact_of l.yielded) ≡ Ok (map fact_meant l.found.items)
