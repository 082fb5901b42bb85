use Rattle.std.proofs.Common.{◌≡◌, subst, IfOk}
use Rattle.lang_schema.specs.Pages.{Written}
use Rattle.lang_schema.proofs.Lined.{after_first}
use Rattle.lang_print.proofs.worded.with_some.Goals as goal

pub returns : goal.returns
returns g c = subst (λ (q : Written). IfOk c.with_others.result (λ p. p ≡ q))
    (after_first (g.T.Worded.words c.args.schema.now) c.args.page c.in_ok-page.page c.args.first.now c.args.others.now c.in_ok-page.ensures.written)
    c.with_others.ensures
