use Rattle.audit_replay.proofs.Planning.{nothing_settled, planned_ok, wants_step}
use Rattle.audit_replay.proofs.stepping.planned_over.Goals as goal

pub plan_step-requires-clause-settled : goal.plan_step-requires-clause-settled
plan_step-requires-clause-settled c = nothing_settled _ c.args.chase.now.mappings.now c.new-below.result c.args.audited.now.program.attempt c.in_ok-settled.settled c.in_ok-settled.ensures.none

pub plan_step-requires-clause-wanted : goal.plan_step-requires-clause-wanted
plan_step-requires-clause-wanted c = wants_step c.args.audited.now _ c.requires.ready c.next_answer-answer.ensures.wanted

pub returns : goal.returns
returns c = record {
  planned = planned_ok c.args.chase.now.mappings.now c.args.chase.now.budget _ _ c.args.audited.now c.plan_step.result _ c.new-below.ensures.same c.next_answer-answer.ensures.next c.plan_step.ensures.program c.plan_step.ensures.reads;
}
