use Rattle.std.proofs.Common.{◌≡◌, ℕ, ap, sym, ◌∙◌, subst, List, Option}
use Rattle.base_types.specs.Candidates.{further_candidates, AreAll}
use Rattle.base_types.specs.declared.candidates.Candidates.{Candidates}
use Rattle.set_facts.proofs.Further.{added_alone, few_whole}
use Rattle.set_facts.proofs.Overlays.{overlaid_in_order}
use Rattle.set_facts.specs.Runs.{run_of}
use Rattle.def_chase.specs.Repository.{IsRepository}
use Rattle.def_chase.specs.Values.{Datum, Fact}
use Rattle.set_facts.proofs.changed.changed.Goals.{in-Together, in-Listed, in-Few+else-is_full}
use Rattle.set_facts.proofs.changed.changed.Goals as goal

pub returns-in-Absent : goal.returns-in-Absent
returns-in-Absent c = record {
  all = λ D added r column past t few told.
      let all = subst (λ (x : Candidates). AreAll x D (further_candidates D r column past)) c.in-Absent.is told in
      (overlaid_in_order D c.args.gone.now added all.0, added_alone D c.args.gone.now added all.0 t r column past c.args.few all.1 few);
}

-- The run is all that the set has at hand.
pub returns : goal.returns
returns c = record {
  all = λ D added r column past t few told.
      let known = at_hand D r column past told in
      (overlaid_in_order D c.args.gone.now added known.0, c.first_of_both.ensures.first D added r column past known.0 t known.1 few);
}
  where
    at_hand :
        (D : List Fact) (r : ℕ) (column : Option (ℕ × Datum)) (past : Option Fact) →
        AreAll c.args.given D (further_candidates D r column past) →
        IsRepository D × (run_of c.match-given.run ≡ further_candidates D r column past)
    at_hand D r column past told = elim c.match-given.branch [
      | in-Together w ↦
          let all = subst (λ (x : Candidates). AreAll x D (further_candidates D r column past)) w.in-Together.is told in
          (all.0, ap run_of w.run-is ∙ sym all.1)
      | in-Listed w ↦
          let all = subst (λ (x : Candidates). AreAll x D (further_candidates D r column past)) w.in-Listed.is told in
          (all.0, ap run_of w.run-is ∙ sym all.1)
      | in-Few+else-is_full w ↦
          let all = subst (λ (x : Candidates). AreAll x D (further_candidates D r column past)) w.in-Few.is told in
          (all.0, ap run_of w.run-is ∙ few_whole w.in-Few.first (further_candidates D r column past) all.1 w.if-is_full.ensures.full)
    ]
