use Rattle.std.proofs.Common.{◌≡◌, ◌∙◌, ◌++◌, ◌∷◌, ap, map, sym, List}
use Rattle.std.proofs.lemmas.List.{map_push, map-append}
use Rattle.std.proofs.lemmas.Result.{err_from_is_err_and}
use Rattle.std.specs.Vec.Iter.{into_iter_items}
use Rattle.base_types.specs.Meanings.{fact_of as fact_meant}
use Rattle.def_language.specs.Meaning.{bounded_fact}
use Rattle.lang_forms.specs.Views.{fact_of}
use Rattle.lang_forms.specs.declared.words.RawFact.{RawFact}
use Rattle.lang_checks.proofs.Items.{fails, passes, taken_front}
use Rattle.lang_checks.proofs.facts.bounded_facts.Goals as goal

pub returns-in_err-bounded_fact : goal.returns-in_err-bounded_fact
returns-in_err-bounded_fact c =
    let p = err_from_is_err_and c.from_residual.result c.from_residual.ensures.1 in
    let front = taken_front c.into_iter-fact-iterator.result c.loop-fact.yielded c.loop-fact.fact-iterator c.loop-fact.yielded_by in
    let items : c.args.facts.items ≡ c.loop-fact.yielded ++ c.in-Some.fact ∷ into_iter_items c.next.new.self =
    sym c.into_vec-fact-items.ensures.same ∙ (sym c.into_iter-fact-iterator.ensures.into_iter_gives.0 ∙ (front ∙ ap (λ (rest : List RawFact). c.loop-fact.yielded ++ rest) c.in-Some.ensures.steps.0)) in
    rw (p.1, p.2) (fails c.in_err-bounded_fact.field-0.0 (bounded_fact c.args.schema.now c.args.most) (map fact_of c.loop-fact.yielded) _ (fact_of c.in-Some.fact) (map fact_of (into_iter_items c.next.new.self)) (map fact_of c.args.facts.items)
    (ap (map fact_of) items ∙ map-append fact_of c.loop-fact.yielded (c.in-Some.fact ∷ into_iter_items c.next.new.self)) c.loop-fact.invariant c.in_err-bounded_fact.ensures)

pub loop-fact-preserved : goal.loop-fact-preserved
loop-fact-preserved c =
    rw (c.in_ok-push.ensures.ok, map_push fact_meant c.loop-fact.found.items c.in_ok-bounded_fact.field-0, map_push fact_of c.loop-fact.yielded c.in-Some.fact)
    (passes (bounded_fact c.args.schema.now c.args.most) (map fact_of c.loop-fact.yielded) (map fact_meant c.loop-fact.found.items) (fact_of c.in-Some.fact) (fact_meant c.in_ok-bounded_fact.field-0) c.loop-fact.invariant c.in_ok-bounded_fact.ensures)
