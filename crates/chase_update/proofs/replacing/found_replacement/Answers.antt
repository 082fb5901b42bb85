use Rattle.std.proofs.Common.{◌∙◌, ap, sym}
use Rattle.std.proofs.lemmas.Result.{IfOk-weaker}
use Rattle.def_chase.specs.Values.{Datum, Unknown}
use Rattle.base_types.specs.Contents.{facts_of}
use Rattle.base_types.specs.Meanings.{null_of}
use Rattle.chase_query.specs.Meanings.{reply_of}
use Rattle.def_steps.specs.Rewriting.{standing_for}
use Rattle.def_steps.specs.Steps.{tuples_of}
use Rattle.chase_update.specs.Rows.{rewriting}
use Rattle.chase_update.proofs.Lookups.{goes, goes_on_with}
use Rattle.chase_update.proofs.replacing.found_replacement.Goals as goal

pub returns-in_ok-value-in-Some-clause-value : goal.returns-in_ok-value-in-Some-clause-value
returns-in_ok-value-in-Some-clause-value c =
    let n = null_of c.args.renaming.now.name in
    let old = Unknown (null_of c.args.renaming.now.null) in
    let all = tuples_of (reply_of c.args.answer.now) in
    let ts = facts_of c.args.renaming.now.tuples in
    let holding = facts_of c.in-Some.holding.now in
    let value = c.in_ok-value-in-Some.ensures.value ∙ ap (standing_for n) (sym (goes all holding c.in-Some.ensures.found)) in
    IfOk-weaker c.rewritten.result _ _
    (λ turn h ms P. h ms P ∙ (ap (λ (d : Datum). rewriting old d ts) value ∙ sym (goes_on_with n all holding (rewriting old (standing_for n all) ts) c.in-Some.ensures.found)))
    c.rewritten.ensures.value
