use Rattle.std.proofs.Common.{◌≡◌, false, length, subst, arith}
use Rattle.std.proofs.lemmas.Grind.{common_steps}
use Rattle.std.proofs.lemmas.List.{nil_from_length}
use Rattle.core_conflict.specs.Meetings.{IsNoneMet}
use Rattle.def_chase.specs.Violations.{Direction}
use Rattle.core_cascade.proofs.Reasons.{passed}
use Rattle.core_cascade.proofs.cascades.passes.Goals as goal

pub returns : goal.returns
returns c = record {
  passed = λ e.
      let none : length c.args.lost.now.members.items ≡ 0 = grind (arith, common_steps) in
      let m : c.may_be_met.result ≡ false = grind (arith, common_steps, e) in
      passed c.args.impact.now c.args.lost.now c.args.reader.now c.requires.covers (nil_from_length c.args.lost.now.members.items none)
      (subst (λ (h : Direction). IsNoneMet h c.args.reader.now.footprint c.args.impact.now) c.direction.ensures.heading (c.may_be_met.ensures.unmet m));
}
