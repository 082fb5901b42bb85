use Rattle.std.proofs.Common.{◌∙◌, ◌++◌, ap, map, sym, List}
use Rattle.std.proofs.lemmas.List.{map-append}
use Rattle.def_chase.specs.Values.{Fact}
use Rattle.base_types.specs.Meanings.{fact_of}
use Rattle.lang_checks.specs.Bases.{gathered}
use Rattle.lang_checks.proofs.Apart.{gathered_last}
use Rattle.lang_checks.proofs.bases.Base.into_list.Goals as goal

pub loop-facts-preserved : goal.loop-facts-preserved
loop-facts-preserved c =
    ap (map fact_of) c.in_ok-append.ensures.items
    ∙ map-append fact_of c.loop-facts.tuples.items c.into_vec.result.items
    ∙ (λ i. c.loop-facts.invariant i ++ map fact_of (c.into_vec.ensures.same i))
    ∙ ap (λ (D : List Fact). gathered c.loop-facts.yielded ++ D) c.in_ok-into_list.ensures.tuples
    ∙ sym (gathered_last c.loop-facts.yielded c.in-Some.facts)
