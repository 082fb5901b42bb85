use Rattle.std.proofs.Common.{◌<◌, length, map, arith}
use Rattle.base_types.specs.Meanings.{change_of, rule_of}
use Rattle.audit_replay.proofs.Risen.{risen_none, risen_more}
use Rattle.audit_replay.proofs.Turns.{first_between, conflicts_begin, conflicts_next, conflicts_end}
use Rattle.audit_replay.proofs.conflicts.conflicts_above.Goals as goal

pub updates-init : goal.updates-init
updates-init c = record {
  risen = risen_none _;
  between = c.requires.between;
  left = λ B n from. conflicts_begin (map rule_of c.args.scene.mappings.now.items) c.args.scene.committed c.args.writer c.args.relations.now B n _ c.args.upper.now _ c.new-causes.ensures.empty from;
}

pub trail-requires : goal.trail-requires
trail-requires c =
    let l : c.updates.audited-index < length c.args.upper.now = omega arith in
    record { between = (first_between c.args.upper.now c.updates.audited-index c.audited-item.result l c.audited-item.is c.updates.invariant.between).0 }

pub updates-preserved : goal.updates-preserved
updates-preserved c =
    let i = c.updates.audited-index in
    let rs = c.args.upper.now in
    let r = c.audited-item.result in
    let l : i < length rs = omega arith in
    record {
      risen = risen_more _ c.updates.levels c.rise.new.self (map change_of c.trail.result.now) c.updates.invariant.risen c.in_ok-rise.ensures.raised;
      between = (first_between rs i r l c.audited-item.is c.updates.invariant.between).1;
      left =
          λ B n from. conflicts_next (map rule_of c.args.scene.mappings.now.items) c.args.scene.committed c.args.writer c.args.relations.now B _ c.updates.levels c.rise.new.self i rs r c.updates.causes.items c.put.new.causes.items c.in_ok-found.found c.trail.result.now
          l c.audited-item.is c.in_ok-found.ensures.cause c.in_ok-put.ensures.put c.trail.ensures.trail c.in_ok-rise.ensures.raised (c.updates.invariant.left B n from);
    }

pub returns : goal.returns
returns c = record {
  causes = λ B n from. conflicts_end (map rule_of c.args.scene.mappings.now.items) c.args.scene.committed c.args.writer c.args.relations.now B _ _ c.updates.audited-index c.args.upper.now c.updates.causes.items (omega arith) (c.updates.invariant.left B n from);
  levels = c.updates.invariant.risen;
}
