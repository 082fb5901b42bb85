use Rattle.std.proofs.Common.{◌<◌, length, map, arith}
use Rattle.base_types.specs.Meanings.{rule_of}
use Rattle.audit_updates.specs.Settings.{deps_of}
use Rattle.audit_replay.specs.Causes.{readers_in}
use Rattle.audit_replay.proofs.Risen.{risen_none, left_risen}
use Rattle.audit_replay.proofs.Turns.{first_between, goes_is, dependences_begin, dependences_next, dependences_end}
use Rattle.audit_replay.proofs.cascades.dependences_above.Goals as goal

pub updates-init : goal.updates-init
updates-init c = record {
  told = λ told. told;
  risen = risen_none _;
  between = c.requires.between;
  left = λ B n told from. dependences_begin (map rule_of c.args.scene.mappings.now.items) (deps_of c.args.scene.deps) c.args.scene.committed (readers_in c.args.firsts.now.items) B n _ _ c.args.upper.now _ c.new-causes.ensures.empty from;
}

pub pass-requires : goal.pass-requires
pass-requires c =
    let l : c.updates.audited-index < length c.args.upper.now = omega arith in
    record { between = (first_between c.args.upper.now c.updates.audited-index c.audited-item.result l c.audited-item.is c.updates.invariant.between).0 }

pub updates-preserved : goal.updates-preserved
updates-preserved c =
    let i = c.updates.audited-index in
    let rs = c.args.upper.now in
    let r = c.audited-item.result in
    let l : i < length rs = omega arith in
    record {
      told = λ told. c.in_ok-pass.ensures.left.told (c.updates.invariant.told told);
      risen = left_risen _ c.updates.levels c.pass.new.levels c.updates.invariant.risen c.in_ok-pass.ensures.rises;
      between = (first_between rs i r l c.audited-item.is c.updates.invariant.between).1;
      left =
          λ B n told from. dependences_next (map rule_of c.args.scene.mappings.now.items) (deps_of c.args.scene.deps) c.args.scene.committed (readers_in c.args.firsts.now.items) B _ c.updates.levels c.pass.new.levels c.updates.losses c.pass.new.self i rs r c.updates.causes.items c.put.new.causes.items c.in_ok-found.found c.either-goes.result
          l c.audited-item.is (c.updates.invariant.told told) c.in_ok-found.ensures.join c.in_ok-put.ensures.put
          (goes_is (readers_in c.args.firsts.now.items) r c.in_ok-found.found _ _ _ c.number.result c.number.ensures.number c.is_named-named.ensures.named c.is_some.ensures c.either-goes.ensures.either)
          c.in_ok-pass.ensures.left (c.updates.invariant.left B n told from);
    }

pub returns : goal.returns
returns c = record {
  causes = λ B n told from. dependences_end (map rule_of c.args.scene.mappings.now.items) (deps_of c.args.scene.deps) c.args.scene.committed (readers_in c.args.firsts.now.items) B _ _ c.updates.losses c.updates.audited-index c.args.upper.now c.updates.causes.items (omega arith) (c.updates.invariant.left B n told from);
  levels = c.updates.invariant.risen;
}
