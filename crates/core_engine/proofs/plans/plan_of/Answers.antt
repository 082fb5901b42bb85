use Rattle.std.proofs.Common.{◌≡◌, ◌∙◌, ◌+◌, suc, subst, sym, refl, ap, arith, List, length, map}
use Rattle.std.proofs.lemmas.List.{length-map}
use Rattle.std.specs.Option.{option_map, option_copied}
use Rattle.base_types.specs.Meanings.{change_of, choice_of}
use Rattle.def_chase.specs.Mappings.{Rule}
use Rattle.def_chase.specs.Values.{Fact}
use Rattle.chase_plan.specs.Planned.{HasSettled}
use Rattle.core_engine.proofs.Marking.{marks_kept}
use Rattle.def_chase.specs.Repository.{apply}
use Rattle.set_versions.specs.Standing.{seen}
use Rattle.core_engine.specs.Taken.{IsSnapshotOf}
use Rattle.core_engine.proofs.Planning.{can_step, stands_applied, planned_same, snapshot_taken}
use Rattle.core_engine.proofs.plans.plan_of.Goals as goal

pub plan_step-requires-clause-applied : goal.plan_step-requires-clause-applied
plan_step-requires-clause-applied c =
    let n = c.number-update.result in
    let next : n + 1 ≡ suc n = omega arith in
    (λ i. seen (c.below-with.ensures.number i) (c.below-with.ensures.versions i))
    ∙ ap (λ m. seen m c.args.versions.now) next
    ∙ stands_applied c.args.mappings.now c.args.versions.now c.args.versions.now c.args.item.now n c.args.item.now.program refl c.number-update.ensures.number refl c.requires.held
    ∙ sym (λ i. apply (seen (c.below-below.ensures.number i) (c.below-below.ensures.versions i)) c.args.item.now.program.attempt.own)

pub plan_step-requires-clause-wanted : goal.plan_step-requires-clause-wanted
plan_step-requires-clause-wanted c = can_step c.args.item.now c.args.item.now.program _ c.requires.ready c.next_answer-answer.ensures.wanted refl

pub plan_step-requires-clause-settled : goal.plan_step-requires-clause-settled
plan_step-requires-clause-settled c =
    let r = c.args.item.now in
    let v = c.args.versions.now in
    let D : seen c.below-below.result.number c.below-below.result.versions.now ≡ seen r.program.attempt.number v =
    (λ i. seen (c.below-below.ensures.number i) (c.below-below.ensures.versions i)) ∙ ap (λ m. seen m v) c.number-update.ensures.number in
    subst (λ (ms : List Rule). HasSettled ms (seen c.below-below.result.number c.below-below.result.versions.now) r.program.attempt c.in_ok-settled.settled) (sym c.all.ensures.rules)
    (subst (λ (E : List Fact). HasSettled c.args.mappings.now E r.program.attempt c.in_ok-settled.settled) (sym D)
    (c.in_ok-settled.ensures.settled (seen r.program.attempt.number v) c.requires.held.valid c.requires.known))

pub returns-clause-planned : goal.returns-clause-planned
returns-clause-planned c =
    let ms = c.args.mappings.now in
    let r = c.args.item.now in
    let v = c.args.versions.now in
    let n = c.number-update.result in
    let a = option_map choice_of (option_copied c.next_answer-answer.result) in
    subst (IsSnapshotOf ms c.args.budget v r)
    (sym (planned_same c.all.result.now c.args.budget _ (seen n v) r.program.attempt a a n _ _ (λ i. seen (c.below-below.ensures.number i) (c.below-below.ensures.versions i)) refl c.in_ok-step.ensures.program c.in_ok-step.ensures.reads))
    (snapshot_taken ms c.all.result.now c.args.budget v v r n r.program a c.all.ensures.rules refl c.number-update.ensures.number refl c.next_answer-answer.ensures.next)

pub returns-clause-known : goal.returns-clause-known
returns-clause-known c =
    let r = c.args.item.now in
    let v = c.args.versions.now in
    let D : seen c.below-below.result.number c.below-below.result.versions.now ≡ seen r.program.attempt.number v =
    (λ i. seen (c.below-below.ensures.number i) (c.below-below.ensures.versions i)) ∙ ap (λ m. seen m v) c.number-update.ensures.number in
    marks_kept c.args.mappings.now v r c.keep.new.self c.plan_step.new.settled (c.keep.ensures.update ∙ c.number-update.ensures.number)
    (c.keep.ensures.made ∙ c.len.ensures.length ∙ (sym (length-map c.own.result.now.items change_of) ∙ ap length c.own.ensures.own)) c.keep.ensures.marks
    (subst (λ (E : List Fact). HasSettled c.args.mappings.now E r.program.attempt c.plan_step.new.settled) D
    (subst (λ (ms : List Rule). HasSettled ms (seen c.below-below.result.number c.below-below.result.versions.now) r.program.attempt c.plan_step.new.settled) c.all.ensures.rules c.in_ok-step.ensures.settled))
