use Rattle.std.proofs.Common.{◌≡◌, ap, false, subst, map, length, arith}
use Rattle.std.proofs.lemmas.Grind.{common_steps}
use Rattle.std.proofs.lemmas.List.{nil_from_length}
use Rattle.base_types.specs.Meanings.{change_of}
use Rattle.core_conflict.specs.Meetings.{IsNoneMet}
use Rattle.def_chase.specs.Violations.{Direction}
use Rattle.core_cascade.specs.Meanings.{above_of}
use Rattle.core_cascade.proofs.Reasons.{no_conflict, unmet_conflict}
use Rattle.core_cascade.proofs.cascades.Cascade.conflict_where.Goals as goal

pub returns-then-is_empty : goal.returns-then-is_empty
returns-then-is_empty c =
    let none : length c.args.written.now ≡ 0 = grind (arith, common_steps) in
    record { conflict = no_conflict (above_of c.args.self.now) (map change_of c.args.written.now) c.args.reader.now (ap (map change_of) (nil_from_length c.args.written.now none)) }

pub returns-then-not-may_be_met : goal.returns-then-not-may_be_met
returns-then-not-may_be_met c =
    let m : c.may_be_met.result ≡ false = grind (arith, common_steps) in
    record {
      conflict =
          unmet_conflict (above_of c.args.self.now) (map change_of c.args.written.now) c.args.reader.now c.args.impact.now c.requires.covers c.requires.impact
          (subst (λ (h : Direction). IsNoneMet h c.args.reader.now.footprint c.args.impact.now) c.direction.ensures.heading (c.may_be_met.ensures.unmet m));
    }
