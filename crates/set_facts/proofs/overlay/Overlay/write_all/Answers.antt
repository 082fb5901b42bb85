use Rattle.std.proofs.Common.{map}
use Rattle.def_chase.specs.Repository.{apply}
use Rattle.base_types.specs.Meanings.{change_of}
use Rattle.set_facts.proofs.Beginning.{left_more, made_more}
use Rattle.set_facts.proofs.overlay.Overlay.write_all.Goals as goal

pub loop-write-preserved : goal.loop-write-preserved
loop-write-preserved g c =
    let i = c.loop-write.write-index in
    let w = c.write-item.result in
    let next = c.in_ok-write.ensures.ok in
    record {
      left = left_more (apply c.args.self.now (map change_of c.args.writes.now)) c.loop-write.self c.write.new.self c.args.writes.now i w c.loop-write-test.true c.write-item.is c.loop-write.invariant.left next;
      made = made_more c.args.self.now c.loop-write.self c.write.new.self c.args.writes.now i w c.loop-write-test.true c.write-item.is c.loop-write.invariant.made next;
    }
