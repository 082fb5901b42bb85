use Rattle.chase_plan.proofs.settling.told_by.Goals as goal

pub returns : goal.returns
returns c =
    record {
      settled =
          λ D valid. c.stir_since.ensures.settled D
          (c.learn_last.ensures.learnt _ D c.args.program.now.attempt valid (c.in_ok-settled.ensures.begun D c.args.program.now.attempt));
    }
