use Rattle.std.proofs.Common.{◌∙◌, ap, List}
use Rattle.std.proofs.lemmas.Result.{IfOk-weaker}
use Rattle.def_chase.specs.Values.{Fact}
use Rattle.def_chase.specs.Repository.{has}
use Rattle.run_ask.specs.Asks.{query_of}
use Rattle.run_ask.specs.Printed.{answers_text}
use Rattle.base_types.specs.Contents.{facts_of}
use Rattle.run_ask.proofs.Computed.{members_decide}
use Rattle.cmd_plain.proofs.asking.answers.Goals as goal

pub returns : goal.returns
returns c =
    let members = λ (t : Fact). ap (λ (D : List Fact). has D t) c.in_ok-indexed.ensures.same ∙ c.in_ok-facts.ensures.members t in
    IfOk-weaker c.answers_text.result _ _
    (λ text is. is ∙ ap answers_text (c.in_ok-rows.ensures.computed ∙ members_decide (query_of c.args.query.now) c.in_ok-indexed.indexed (facts_of c.args.tuples.now) c.requires members)) c.answers_text.ensures.text
