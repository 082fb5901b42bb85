use Rattle.std.proofs.Common.{sym, subst}
use Rattle.std.specs.Prelude.{List, ℕ}
use Rattle.std.proofs.lemmas.Result.{IfOk-weaker}
use Rattle.def_language.specs.Lines.{Spells}
use Rattle.lang_session.specs.Meanings.{session_of}
use Rattle.lang_print.specs.Upgrades.{upgraded}
use Rattle.lang_print.proofs.Upgraded.{valid_upgraded}
use Rattle.lang_print.proofs.sessions.print_upgraded.Goals as goal

pub returns-clause-read_again : goal.returns-clause-read_again
returns-clause-read_again c v =
    let s = session_of c.args.session.now in
    IfOk-weaker c.print_as.result _ _ (λ text e. subst (λ (bytes : List ℕ). Spells bytes (upgraded s)) (sym e) (c.sessions_are_read_again.ensures (upgraded s) (valid_upgraded s v))) c.print_as.ensures
