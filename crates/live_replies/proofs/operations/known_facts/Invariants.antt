-- The tuples of all facts are those so far and those of the facts that are left.
use Rattle.std.proofs.Common.{◌≡◌, ◌++◌, map, drop}
use Rattle.std.specs.Prelude.{option_map}
use Rattle.base_types.specs.Meanings.{fact_of}
use Rattle.lang_forms.specs.Views.{fact_of as fact_meant}
use Rattle.live_replies.specs.Known.{known_facts}
use Rattle.live_replies.proofs.operations.known_facts.Given as goal

abbrev pub invariant-loop-fact : goal.invariant-loop-fact
invariant-loop-fact l =
    option_map (λ ts. map fact_of l.tuples.items ++ ts) (known_facts l.schema (map fact_meant (drop l.fact-index l.facts))) ≡ known_facts l.schema (map fact_meant l.facts)
