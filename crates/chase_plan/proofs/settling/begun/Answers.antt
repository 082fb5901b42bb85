use Rattle.std.proofs.Common.{ap, take}
use Rattle.def_chase.specs.Updates.{direction_of}
use Rattle.chase_eval.proofs.Settling.{nothing_caused}
use Rattle.chase_plan.proofs.Noting.{nothing_settled}
use Rattle.chase_plan.proofs.settling.begun.Goals as goal

pub returns-then-made-eq0 : goal.returns-then-made-eq0
returns-then-made-eq0 c = record {
  begun = λ D P n e. nothing_caused c.args.mappings.now (direction_of P.operation) D (take c.args.made P.own) n (ap (λ m. take m P.own) c.if-made-eq0.true);
}

pub returns : goal.returns
returns c = record { begun = λ D P. nothing_settled _ c.args.made c.args.mappings.now D P _ c.in_ok-settled-2.ensures.none }
