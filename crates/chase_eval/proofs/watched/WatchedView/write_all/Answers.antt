use Rattle.std.proofs.Common.{map}
use Rattle.base_types.specs.Meanings.{change_of}
use Rattle.chase_eval.specs.Watched.{watched_on}
use Rattle.chase_eval.proofs.Written.{watched_left, watched_more}
use Rattle.chase_eval.proofs.watched.WatchedView.write_all.Goals as goal

pub loop-write-preserved : goal.loop-write-preserved
loop-write-preserved g c =
    let i = c.loop-write.write-index in
    let w = c.write-item.result in
    let next = c.in_ok-write.ensures.ok in
    record {
      left = watched_left (watched_on c.args.self.now (map change_of c.args.writes.now)) c.loop-write.self c.write.new.self c.args.writes.now i w c.loop-write-test.true c.write-item.is c.loop-write.invariant.left next;
      made = watched_more c.args.self.now c.loop-write.self c.write.new.self c.args.writes.now i w c.loop-write-test.true c.write-item.is c.loop-write.invariant.made next;
    }
