use Rattle.std.proofs.Common.{refl}
use Rattle.std.specs.Fmt.{digits}
use Rattle.json.proofs.OnLiterals.{json_on_literals}
use Rattle.def_language.specs.Layout.{laid_out}
use Rattle.audit_trace.proofs.laws.worked_traces.Goals as goal

pub returns : goal.returns
unfolding json_on_literals laid_out digits
returns c = record { repaired = refl; restarts = refl; inner = refl; delivered = refl; answered = refl; withdrawn = refl }
