use Rattle.std.proofs.Common.{refl}
use Rattle.std.specs.Fmt.{digits}
use Rattle.def_language.proofs.rows.printed_tuples.Goals as goal

pub returns-clause-forced : goal.returns-clause-forced
unfolding digits
returns-clause-forced c = refl

pub returns-clause-inner : goal.returns-clause-inner
unfolding digits
returns-clause-inner c = refl

pub returns-clause-outer : goal.returns-clause-outer
unfolding digits
returns-clause-outer c = refl
