use Rattle.std.proofs.Common.{rules, ◌≡◌, false, ◌||◌}
use Rattle.base_types.specs.Meanings.{heading_of}
use Rattle.core_conflict.proofs.Apart.{none_met}
use Rattle.core_conflict.proofs.footprints.Footprint.may_be_met.Goals as goal

pub returns : goal.returns
returns c = record { unmet = λ e. none_met (heading_of c.args.direction) c.args.self.now c.args.impact.now (search rules) (search rules) (c.may_join.ensures.joinless e) }
