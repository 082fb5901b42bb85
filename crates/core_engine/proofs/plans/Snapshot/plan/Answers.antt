use Rattle.std.proofs.Common.{◌≡◌, ◌∙◌, ◌+◌, suc, ap, sym, arith}
use Rattle.std.specs.Option.{option_map}
use Rattle.base_types.specs.Meanings.{choice_of}
use Rattle.def_chase.specs.Repository.{apply}
use Rattle.set_versions.specs.Standing.{seen}
use Rattle.core_engine.proofs.Planning.{planned_same}
use Rattle.core_engine.proofs.plans.Snapshot.plan.Goals as goal

pub plan_step-requires-clause-applied : goal.plan_step-requires-clause-applied
plan_step-requires-clause-applied c =
    let next : c.self.inside.update + 1 ≡ suc c.self.inside.update = omega arith in
    (λ i. seen (c.below-with.ensures.number i) (c.below-with.ensures.versions i))
    ∙ ap (λ n. seen n c.self.inside.versions) next
    ∙ c.self.invariant.applied
    ∙ sym (λ i. apply (seen (c.below-below.ensures.number i) (c.below-below.ensures.versions i)) c.self.inside.program.attempt.own)

pub returns : goal.returns
returns c =
    record {
      same =
          planned_same c.self.inside.mappings c.self.inside.budget _ _ c.self.inside.program.attempt _ _ c.self.inside.update _ _ (λ i. seen (c.below-below.ensures.number i) (c.below-below.ensures.versions i))
          (ap (option_map choice_of) c.lent-answer.ensures) c.in_ok-step.ensures.program c.in_ok-step.ensures.reads
          ∙ c.self.view_is;
    }
