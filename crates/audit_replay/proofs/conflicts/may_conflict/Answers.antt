use Rattle.std.proofs.Common.{ap, map, rules}
use Rattle.base_types.specs.Meanings.{rule_of}
use Rattle.chase_query.specs.Meanings.{reads_in}
use Rattle.audit_replay.proofs.Found.{may_live, may_not}
use Rattle.audit_replay.proofs.conflicts.may_conflict.Goals as goal

pub returns-then-live : goal.returns-then-live
returns-then-live c = record {
  met = may_live (map rule_of c.args.scene.mappings.now.items) c.args.scene.committed c.number.result c.args.relations.now c.args.audited.now c.is_live-live.result c.any_met-met.result _ c.number.ensures.number c.is_live-live.ensures.live (search rules)
      (ap reads_in c.as_slice.ensures.items) c.any_met-met.ensures.met;
}

pub returns-else-live : goal.returns-else-live
returns-else-live c = record {
  met = may_not (map rule_of c.args.scene.mappings.now.items) c.args.scene.committed c.number.result c.args.relations.now c.args.audited.now c.is_live-live.result c.number.ensures.number c.is_live-live.ensures.live (search rules);
}
