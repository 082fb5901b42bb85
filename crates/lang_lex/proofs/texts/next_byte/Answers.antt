use Rattle.std.proofs.Common.{sym}
use Rattle.std.proofs.lemmas.Bool.{ne_eqb, eq-eqb}
use Rattle.lang_lex.proofs.Carried.{plain_byte, escaped_byte}
use Rattle.lang_lex.proofs.texts.next_byte.Goals as goal

pub returns-then-byte-ne92-clause-says : goal.returns-then-byte-ne92-clause-says
returns-then-byte-ne92-clause-says c = plain_byte c.args.opened c.args.place c.args.rest.now c.in-len2-up.len_at_least (ne_eqb _ _ c.if-byte-eq34-2.false) (ne_eqb _ _ c.if-byte-ne92.true)

pub returns-in-Some-clause-says : goal.returns-in-Some-clause-says
returns-in-Some-clause-says c = escaped_byte c.args.opened c.args.place c.in-Some.said c.args.rest.now c.in-len2-up.len_at_least (ne_eqb _ _ c.if-byte-eq34-2.false) (eq-eqb _ _ c.if-byte-ne92.false) (sym c.in-Some.ensures)
