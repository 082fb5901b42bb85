use Rattle.std.proofs.Common.{arith, rules}
use Rattle.std.proofs.lemmas.Fmt.{decimal_digit}
use Rattle.lang_schema.proofs.numerals.push_one.Goals as goal

pub returns-clause-ok : goal.returns-clause-ok
returns-clause-ok c = rw (decimal_digit c.args.number (omega (arith, c.requires))) (search rules)
