use Rattle.std.proofs.Common.{map}
use Rattle.base_types.specs.Meanings.{rule_of, change_of, heading_of}
use Rattle.chase_eval.proofs.Settling.{settled_with}
use Rattle.chase_eval.proofs.watched.WatchedView.write.Goals as goal

pub invariant_of-self-2 : goal.invariant_of-self-2
invariant_of-self-2 g c = (
  settled_with (map rule_of c.self.inside.mappings.now.items) (heading_of c.self.inside.direction) c.self.inside.view c.write.new.self (change_of c.args.write.now) c.self.inside.settled c.stir_by.new.self
      c.self.invariant.0 c.stir_by.ensures.left c.in_ok-write.ensures.ok,
  c.self.invariant.1,
)
