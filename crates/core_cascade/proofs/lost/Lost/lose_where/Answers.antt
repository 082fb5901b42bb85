use Rattle.core_cascade.proofs.Holding.{kept_where, lost_where}
use Rattle.core_cascade.proofs.lost.Lost.lose_where.Goals as goal

pub returns-then-not-restarts : goal.returns-then-not-restarts
returns-then-not-restarts c = record { lost = kept_where c.args.reader.now c.args.restarts c.args.self.now c.if-not-restarts.true; impact = c.requires.impact }

pub returns : goal.returns
returns c = record {
  lost = lost_where c.args.reader.now c.number.result c.trail.result.now c.args.restarts c.args.self.now c.lose.new.self c.if-not-restarts.false c.number.ensures.number c.trail.ensures.trail c.in_ok-lose.ensures.lost;
  impact = c.in_ok-lose.ensures.impact;
}
