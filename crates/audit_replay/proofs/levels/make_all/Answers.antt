use Rattle.std.proofs.Common.{◌∙◌, ap, sym, ◌+◌, List, map, drop}
use Rattle.base_types.specs.Meanings.{change_of}
use Rattle.base_types.specs.declared.updates.Write.{Write}
use Rattle.def_chase.specs.Values.{Fact}
use Rattle.def_chase.specs.Repository.{apply}
use Rattle.audit_replay.proofs.Leftover.{next_left}
use Rattle.audit_replay.proofs.levels.make_all.Goals as goal

pub loop-write-preserved : goal.loop-write-preserved
loop-write-preserved c =
    let i = c.loop-write.write-index in
    let left = map change_of (drop (i + 1) c.args.writes.now) in
    record {
      made =
          ap (λ (E : List Fact). apply E left) c.in_ok-make.ensures.made
          ∙ (ap (λ (ws : List Write). apply c.loop-write.facts (map change_of ws)) (sym (next_left c.args.writes.now i c.write-item.result c.loop-write-test.true c.write-item.is))
          ∙ c.loop-write.invariant.made);
      back = c.in_ok-make.ensures.back ∙ c.loop-write.invariant.back;
    }
