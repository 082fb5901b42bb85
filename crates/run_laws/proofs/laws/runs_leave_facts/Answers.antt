use Rattle.run_laws.proofs.Leaving.{facts_left, order_left}
use Rattle.run_laws.proofs.laws.runs_leave_facts.Goals as goal

pub returns-clause-facts : goal.returns-clause-facts
returns-clause-facts c = λ budget s v some within. facts_left s v budget some within

pub returns-clause-in_order : goal.returns-clause-in_order
returns-clause-in_order c = λ budget s v some within. order_left s v budget some within
