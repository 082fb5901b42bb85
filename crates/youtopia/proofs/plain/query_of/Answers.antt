use Rattle.std.proofs.Common.{◌∙◌, Some, ap, sym}
use Rattle.clap.specs.Words.{Text as Letters}
use Rattle.run_ask.specs.Written.{SpellsAsk}
use Rattle.cmd_words.specs.Alike.{text_of}
use Rattle.youtopia.proofs.Asking.{lacking}
use Rattle.youtopia.proofs.plain.query_of.Goals as goal

pub returns-in-Some-clause-none : goal.returns-in-Some-clause-none
returns-in-Some-clause-none c =
    lacking SpellsAsk (text_of c.args.options.now.query) c.as_bytes.result.now c.parse_ask.result
    (ap text_of c.in-Some.is ∙ ap (λ (t : Letters). Some t) (sym c.as_bytes.ensures.value)) c.parse_ask.ensures.none
