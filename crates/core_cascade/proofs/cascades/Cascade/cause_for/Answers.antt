use Rattle.std.proofs.Common.{map, rules}
use Rattle.base_types.specs.Meanings.{change_of}
use Rattle.core_cascade.specs.Meanings.{above_of}
use Rattle.core_cascade.proofs.Reasons.{none_for, conflict_first, dependence_then}
use Rattle.core_cascade.proofs.cascades.Cascade.cause_for.Goals as goal

pub returns-then-not-may_have_cause : goal.returns-then-not-may_have_cause
returns-then-not-may_have_cause c = record { cause = none_for (above_of c.args.self.now) (map change_of c.args.written.now) c.args.lost.now c.args.reader.now (search rules) }

pub returns-in-Some : goal.returns-in-Some
returns-in-Some c = record { cause = conflict_first (above_of c.args.self.now) (map change_of c.args.written.now) c.args.lost.now c.args.reader.now c.in-Some.cause (search rules) (search rules) }

pub returns : goal.returns
returns c = record { cause = dependence_then (above_of c.args.self.now) (map change_of c.args.written.now) c.args.lost.now c.args.reader.now c.in_ok-cause-2.cause (search rules) (search rules) c.in_ok-cause-2.ensures.dependence }
