use Rattle.std.proofs.Common.{◌≡◌, ◌∙◌, ◌+◌, ap, arith, drop, map, refl, subst}
use Rattle.base_types.specs.Meanings.{rule_of}
use Rattle.def_steps.specs.Steps.{look_from}
use Rattle.chase_update.specs.Rows.{Violating, row_tree}
use Rattle.chase_update.proofs.Logging.{passage_begins, passage_goes_on}
use Rattle.chase_update.proofs.settled.end_of_passage.Goals as goal

pub passage-init : goal.passage-init
passage-init c = record {
  passed = λ val P made before finds. passage_begins val (row_tree c.args.mappings.now P (Violating c.args.from)) c.args.from made before;
  after = omega arith;
  small = omega arith;
}

pub passage-preserved : goal.passage-preserved
passage-preserved c =
    let ms = c.args.mappings.now in
    let k = c.passage.place in
    let same = ap (map rule_of) c.as_slice-all.ensures.items ∙ c.list.ensures.rules in
    record {
      passed = λ val P made before finds.
          passage_goes_on val ms P c.args.from k made before c.passage.invariant.after (c.passage.invariant.passed val P made before finds) (finds k (c.passage-test.ensures.mark refl))
          (subst (λ rs. row_tree rs P (Violating (k + 1)) ≡ look_from P (k + 1) (drop (k + 1) rs)) same (c.passage-test.ensures.next refl P.number P refl));
      after = omega arith;
      small = omega arith;
    }

pub returns-clause-passed : goal.returns-clause-passed
returns-clause-passed c = λ number made before val P finds is. c.passage.invariant.passed val P made before finds
