use Rattle.std.proofs.Common.{◌≡◌, ◌∙◌, ◌++◌, ◌∷◌, [], arith, ap, map, sym}
use Rattle.base_types.specs.Meanings.{rule_of}
use Rattle.def_language.specs.Cycles.{has_plain_cycle}
use Rattle.lang_checks.proofs.Mapped.{rules_are}
use Rattle.lang_checks.proofs.Rows.{cycle_is}
use Rattle.lang_checks.proofs.cycles.has_plain_cycle.Goals as goal

pub returns : goal.returns
returns c =
    let done : c.loop-between.between ≡ c.args.relations = omega (arith, c.loop-between-test.false, c.loop-between.auto.between-end) in
    record { cycle = cycle_is (map rule_of c.args.mappings.now ++ rule_of c.args.last.now ∷ []) c.args.relations c.loop-between.between c.loop-between.rows.items c.goes_round.result c.loop-between.invariant.1 done c.loop-between.invariant.0 (rw c.deref.ensures.value at c.goes_round.ensures.round) ∙ sym (ap (has_plain_cycle c.args.relations) (rules_are c.args.mappings.now c.args.last.now)) }
