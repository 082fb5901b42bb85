use Rattle.chase_repair.proofs.repairs.Repair.backward.Goals as goal

pub invariant_of-result : goal.invariant_of-result
invariant_of-result c = c.in_ok-stage.ensures.sound record { mapping = c.args.number; binding = c.new.result; atom = 0 }
