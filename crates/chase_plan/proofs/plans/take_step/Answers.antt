use Rattle.std.proofs.Common.{◌∙◌, ap, subst, sym}
use Rattle.std.specs.Option.{option_map, option_copied}
use Rattle.base_types.specs.Meanings.{choice_of, heading_of}
use Rattle.chase_eval.specs.Seen.{Seen}
use Rattle.chase_eval.specs.Watched.{Watched, AreSettled}
use Rattle.def_steps.specs.Steps.{step}
use Rattle.chase_update.specs.Courses.{State, coming_to, course}
use Rattle.chase_plan.specs.Planned.{at_rest}
use Rattle.chase_plan.proofs.Answering.{planned, planned_reads, made_so_far}
use Rattle.chase_plan.proofs.plans.take_step.Goals as goal

-- The step is one of the attempt, which it only adds writes to.
pub share-requires : goal.share-requires
share-requires g c =
    let ms = c.args.chase.now.mappings.now in
    let P = c.args.program.now.attempt in
    let seen = c.new-view.ensures.seen in
    let own = ap (λ (v : Seen). v.own) seen ∙ c.own-own.ensures.own in
    let begun = c.in_ok-begin.ensures.step ∙ ap (λ (s : State). coming_to c.args.chase.now.budget s.attempt (step ms s.attempt (option_map choice_of (option_copied c.args.choice)))) c.requires.same in
    record {
      first = (
        _,
        sym (ap (λ (s : State). s.attempt.own) (c.in_ok-reads.ensures.answered
            ∙ ap at_rest (planned ms c.args.chase.now.budget (g.F.Facts.tuples c.args.footing.now.below.now) P (option_map choice_of (option_copied c.args.choice))
            (course ms c.begin.new.program) c.new-view.result.below c.new-view.result.own (heading_of c.direction-direction.result)
            (ap (λ (v : Seen). v.below) seen) own c.direction-direction.ensures.heading begun))),
      );
    }

pub returns-clause-program : goal.returns-clause-program
returns-clause-program g c =
    let ms = c.args.chase.now.mappings.now in
    let P = c.args.program.now.attempt in
    let seen = c.new-view.ensures.seen in
    let own = ap (λ (v : Seen). v.own) seen ∙ c.own-own.ensures.own in
    let begun = c.in_ok-begin.ensures.step ∙ ap (λ (s : State). coming_to c.args.chase.now.budget s.attempt (step ms s.attempt (option_map choice_of (option_copied c.args.choice)))) c.requires.same in
    c.share.ensures.same
    ∙ c.in_ok-reads.ensures.answered
    ∙ ap at_rest (planned ms c.args.chase.now.budget (g.F.Facts.tuples c.args.footing.now.below.now) P (option_map choice_of (option_copied c.args.choice))
    (course ms c.begin.new.program) c.new-view.result.below c.new-view.result.own (heading_of c.direction-direction.result)
    (ap (λ (v : Seen). v.below) seen) own c.direction-direction.ensures.heading begun)

pub returns-clause-reads : goal.returns-clause-reads
returns-clause-reads g c =
    let ms = c.args.chase.now.mappings.now in
    let P = c.args.program.now.attempt in
    let seen = c.new-view.ensures.seen in
    let own = ap (λ (v : Seen). v.own) seen ∙ c.own-own.ensures.own in
    let begun = c.in_ok-begin.ensures.step ∙ ap (λ (s : State). coming_to c.args.chase.now.budget s.attempt (step ms s.attempt (option_map choice_of (option_copied c.args.choice)))) c.requires.same in
    c.in_ok-reads.ensures.reads
    ∙ planned_reads ms c.args.chase.now.budget c.len-made.result (g.F.Facts.tuples c.args.footing.now.below.now) P (option_map choice_of (option_copied c.args.choice))
    (course ms c.begin.new.program) c.new-view.result.below c.new-view.result.own (heading_of c.direction-direction.result)
    (ap (λ (v : Seen). v.below) seen) own c.direction-direction.ensures.heading begun
    (c.len-made.ensures.length ∙ made_so_far c.own-own.result.now.items P.own c.own-own.ensures.own)

pub returns-clause-settled : goal.returns-clause-settled
returns-clause-settled g c =
    let seen = c.new-view.ensures.seen in
    let below = ap (λ (v : Seen). v.below) seen in
    let own = ap (λ (v : Seen). v.own) seen ∙ c.own-own.ensures.own in
    subst (λ (w : Watched). AreSettled w c.answer_all.new.settled)
    (λ i. record { rules = c.args.chase.now.mappings.now; heading = c.direction-direction.ensures.heading i; below = below i; own = own i })
    c.in_ok-reads.ensures.settled
