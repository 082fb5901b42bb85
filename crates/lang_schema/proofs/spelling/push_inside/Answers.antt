use Rattle.std.proofs.Common.{◌∙◌, sym, rules}
use Rattle.lang_schema.proofs.Tupled.{plain_text}
use Rattle.lang_schema.proofs.spelling.push_inside.Goals as goal

pub returns-then-is_plain_text-clause-ok : goal.returns-then-is_plain_text-clause-ok
returns-then-is_plain_text-clause-ok c = rw (plain_text c.args.text.now (sym c.is_plain_text.ensures ∙ c.if-is_plain_text.true)) (search rules)
