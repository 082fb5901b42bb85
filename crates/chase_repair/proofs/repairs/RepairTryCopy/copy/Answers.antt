use Rattle.chase_repair.proofs.Copied.{copy_sound}
use Rattle.chase_repair.proofs.repairs.RepairTryCopy.copy.Goals as goal

pub invariant_of-result : goal.invariant_of-result
invariant_of-result c = copy_sound c.self.inside.generation c.in_ok-copy.field-0 c.self.inside.stage c.in_ok-copy_stage.field-0 c.in_ok-copy.ensures.same c.in_ok-copy_stage.ensures.sound c.self.invariant
