use Rattle.run_explain.proofs.Alike.{alike}
use Rattle.run_explain.proofs.sameness.same_reasons.Goals as goal

pub returns : goal.returns
returns c = record { same = alike _ c.args.told.now c.args.given.now c.eq.ensures }
