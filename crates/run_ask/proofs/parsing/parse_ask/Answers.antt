use Rattle.std.proofs.Common.{sym, ◌∙◌}
use Rattle.run_ask.proofs.Encoded.{not_utf8}
use Rattle.run_ask.proofs.parsing.parse_ask.Goals as goal

pub returns-then-is_some-clause-none : goal.returns-then-is_some-clause-none
returns-then-is_some-clause-none c = λ q spelled. not_utf8 c.utf8_end.result c.args.text.now (sym c.is_some.ensures ∙ c.if-is_some.true) c.utf8_end.ensures.place spelled.utf8
