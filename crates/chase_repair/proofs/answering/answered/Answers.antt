use Rattle.std.proofs.Common.{ap, map, rules, subst}
use Rattle.base_types.specs.Meanings.{fact_of, change_of}
use Rattle.base_types.specs.Contents.{facts_of}
use Rattle.chase_query.specs.Meanings.{reply_of}
use Rattle.chase_repair.specs.Repairs.{phase_of}
use Rattle.chase_repair.specs.Stages.{gathering_of, repairing_of, IsSound}
use Rattle.chase_repair.proofs.Asking.{next_asked, ends_united}
use Rattle.chase_repair.proofs.answering.answered.Goals as goal

pub returns-in_ok-ask_next-in-Unifying-clause-step : goal.returns-in_ok-ask_next-in-Unifying-clause-step
returns-in_ok-ask_next-in-Unifying-clause-step c =
    next_asked c.args.mappings.now (map change_of c.args.own.now.items) c.args.generation.now c.args.stage.now c.in-Unifying.field-0.value c.in-Unifying.gathering.value (gathering_of c.ask_next.new.gathering) (map fact_of c.tuples_of-tuples.result.now) (reply_of c.args.answer.now)
    (ap (repairing_of c.args.generation.now) c.in-Unifying.is) (subst (IsSound c.args.generation.now) c.in-Unifying.is c.requires.fits) (search rules) (search rules) c.tuples_of-tuples.ensures.tuples

pub returns-in_ok-stage-in-Unifying-clause-step : goal.returns-in_ok-stage-in-Unifying-clause-step
returns-in_ok-stage-in-Unifying-clause-step c =
    let g = c.args.generation.now in
    let w = c.in-Unifying in
    let all = c.in_ok-all-in-Unifying in
    let made = c.in_ok-stage-in-Unifying in
    ends_united c.args.mappings.now (map change_of c.args.own.now.items) (map change_of c.unify.new.own.items) (phase_of (repairing_of c.unify.new.generation made.field-0)) g c.args.stage.now w.field-0.value w.gathering.value (map fact_of c.tuples_of-tuples.result.now) (facts_of all.all) (reply_of c.args.answer.now)
    (ap (repairing_of g) w.is) (subst (IsSound g) w.is c.requires.fits) (search rules) c.tuples_of-tuples.ensures.tuples (search rules) (search rules) (search rules)
