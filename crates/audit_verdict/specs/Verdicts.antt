-- What the program's verdicts stand for.
use Rattle.audit_claims.specs.Verdicts.{Verdict, Yes, No, Why, Form, NotAllowed, Effect}
use Rattle.audit_verdict.specs.declared.verdicts.Why.{Why as WhyOfProgram}
use Rattle.audit_verdict.specs.declared.verdicts.Why.TheVariants as whys
use Rattle.audit_verdict.specs.declared.verdicts.Verdict.{Verdict as VerdictOfProgram}
use Rattle.audit_verdict.specs.declared.verdicts.Verdict.TheVariants as verdicts

-- what a `Why` of the program stands for; then, a `Verdict`
abbrev pub why_of : WhyOfProgram → Why
why_of whys.Form = Form
why_of whys.Event = NotAllowed
why_of whys.Effect = Effect

abbrev pub verdict_of : VerdictOfProgram → Verdict
verdict_of (verdicts.Yes entries quiet) = Yes entries quiet
verdict_of (verdicts.No line why) = No line (why_of why)
