use Rattle.std.proofs.Common.{◌≡◌, ◌∙◌, ap, sym, map, filter, subst, true}
use Rattle.def_chase.specs.Values.{Fact}
use Rattle.def_chase.specs.Specific.{more_specific}
use Rattle.def_chase.specs.Unifier.{unifier}
use Rattle.base_types.specs.Meanings.{null_of, fact_of}
use Rattle.def_steps.specs.Rewriting.{sorted_nulls, nulls_in}
use Rattle.chase_repair.specs.Nulls.{moves}
use Rattle.chase_repair.proofs.Chosen.{candidate_specific}
use Rattle.chase_repair.proofs.planning.plan.Goals as goal

pub unifier-requires : goal.unifier-requires
unifier-requires c =
    let t = fact_of c.args.tuple.now in
    subst (λ (s : Fact). more_specific s t ≡ true) (sym c.named_candidate.ensures)
    (candidate_specific t (map fact_of c.args.candidates.now.items) (fact_of c.args.form.now) c.requires)

pub returns-clause-unifier : goal.returns-clause-unifier
returns-clause-unifier c = c.in_ok-sub.ensures.value ∙ ap (unifier (fact_of c.args.tuple.now)) c.named_candidate.ensures

pub returns-clause-nulls : goal.returns-clause-nulls
returns-clause-nulls c =
    let t = fact_of c.args.tuple.now in
    ap (map null_of) c.into_vec.ensures.same ∙ c.in_ok-nulls.ensures.value
    ∙ ap (λ f. filter (moves f) (sorted_nulls (nulls_in t.values))) (c.in_ok-sub.ensures.value ∙ ap (unifier t) c.named_candidate.ensures)
