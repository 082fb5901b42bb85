use Rattle.std.proofs.Common.{◌∙◌, Some, ap, sym}
use Rattle.clap.specs.Words.{Text as Letters}
use Rattle.lang_reader.specs.Facts.{SpellsFact}
use Rattle.cmd_words.specs.Alike.{text_of}
use Rattle.youtopia.proofs.Asking.{lacking}
use Rattle.youtopia.proofs.explaining.fact_in.Goals as goal

pub returns-in-Some-clause-none : goal.returns-in-Some-clause-none
returns-in-Some-clause-none c =
    lacking SpellsFact (text_of c.args.options.now.tuple) c.as_bytes.result.now c.read_fact.result
    (ap text_of c.in-Some.is ∙ ap (λ (t : Letters). Some t) (sym c.as_bytes.ensures.value)) c.read_fact.ensures.none
