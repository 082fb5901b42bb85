use Rattle.std.proofs.Common.{ap, map}
use Rattle.base_types.specs.Meanings.{rule_of, heading_of}
use Rattle.chase_eval.specs.Seen.{Seen}
use Rattle.chase_eval.proofs.Settling.{nothing_caused}
use Rattle.chase_eval.proofs.watched.WatchedView.new.Goals as goal

pub invariant_of-result : goal.invariant_of-result
invariant_of-result g c =
    (λ n e. nothing_caused (map rule_of c.args.mappings.now.items) (heading_of c.args.direction) c.new.result.below c.new.result.own n (ap (λ (s : Seen). s.own) c.new.ensures.before), tt)
