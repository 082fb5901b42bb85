use Rattle.std.proofs.Common.{subst, sym}
use Rattle.core_queue.specs.Programs.{HasNext}
use Rattle.core_queue.specs.Wants.{WantsNext}
use Rattle.core_engine.proofs.plans.next_answer.Goals as goal

pub returns-clause-next : goal.returns-clause-next
returns-clause-next c = subst (HasNext c.args.item.now) (sym c.in_ok-answer.ensures.same) c.next_answer-found.ensures.next

pub returns-clause-wanted : goal.returns-clause-wanted
returns-clause-wanted c = subst (WantsNext c.args.item.now) (sym c.in_ok-answer.ensures.same) c.next_answer-found.ensures.wanted
