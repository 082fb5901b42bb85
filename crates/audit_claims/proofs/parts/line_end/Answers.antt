use Rattle.audit_claims.proofs.Lined.{line_fed, line_unfed}
use Rattle.audit_claims.proofs.parts.line_end.Goals as goal

pub returns-in-Some-clause-line : goal.returns-in-Some-clause-line
returns-in-Some-clause-line c = line_fed c.args.text.now c.in-Some.place c.in-Some.ensures.0.high c.in-Some.ensures.1 c.in-Some.ensures.0.before

pub returns-in-None-clause-line : goal.returns-in-None-clause-line
returns-in-None-clause-line c = line_unfed c.args.text.now c.requires.some c.in-None.ensures
