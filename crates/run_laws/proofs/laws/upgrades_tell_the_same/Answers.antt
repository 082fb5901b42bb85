use Rattle.std.proofs.Common.{refl}
use Rattle.lang_print.proofs.Upgraded.{valid_upgraded}
use Rattle.run_laws.proofs.laws.upgrades_tell_the_same.Goals as goal

pub returns-clause-session : goal.returns-clause-session
returns-clause-session c = valid_upgraded

pub returns-clause-told : goal.returns-clause-told
returns-clause-told c = λ budget s. refl
