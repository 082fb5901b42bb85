use Rattle.audit_claims.proofs.Lined.{bare_fed, bare_unfed}
use Rattle.audit_claims.proofs.parts.bare.Goals as goal

pub returns-in-Some : goal.returns-in-Some
returns-in-Some c = record { bare = bare_fed c.args.text.now c.in-Some.place c.in-Some.ensures.0.high c.in-Some.ensures.1 c.in-Some.ensures.0.before }

pub returns-in-None : goal.returns-in-None
returns-in-None c = record { bare = bare_unfed c.args.text.now c.in-None.ensures }
