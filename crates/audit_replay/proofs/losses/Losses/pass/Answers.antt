use Rattle.std.proofs.Common.{map, rules}
use Rattle.base_types.specs.Meanings.{change_of}
use Rattle.audit_replay.proofs.Losing.{left_lost, left_kept}
use Rattle.audit_replay.proofs.Risen.{risen_none, risen_more}
use Rattle.audit_replay.proofs.losses.Losses.pass.Goals as goal

pub returns-then-goes : goal.returns-then-goes
returns-then-goes c = record {
  left = left_lost c.args.goes c.args.audited.now c.trail.result.now c.number.result c.args.levels.now c.args.self.now c.lose.new.self (search rules) c.number.ensures.number c.trail.ensures.trail c.in_ok-lose.ensures.lost;
  rises = risen_none _;
}

pub returns : goal.returns
returns c = record {
  left = left_kept c.args.goes c.args.audited.now c.trail-2.result.now c.args.levels.now c.rise.new.self c.args.self.now (search rules) c.trail-2.ensures.trail c.in_ok-rise.ensures.raised;
  rises = risen_more _ _ c.rise.new.self (map change_of c.trail-2.result.now) (risen_none c.args.levels.now) c.in_ok-rise.ensures.raised;
}
