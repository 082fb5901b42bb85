use Rattle.std.proofs.Common.{◌∙◌, sym}
use Rattle.base_types.specs.Meanings.{fact_of}
use Rattle.base_roll.proofs.Gates.{first_byte}
use Rattle.run_journal.proofs.Heads.{none_of, signed_some, some_of}
use Rattle.run_journal.proofs.WriteLines.{no_tuple_after}
use Rattle.run_journal.proofs.reading.read_write.Goals as goal

pub returns-in-Some-clause-some : goal.returns-in-Some-clause-some
returns-in-Some-clause-some c =
    let read = some_of _ c.in_ok-tuple.field-0 c.in-Some.tuple c.in-Some.is c.in_ok-tuple.ensures.some in
    signed_some c.args.session.now.schema c.args.line.now _ _ (fact_of c.in-Some.tuple) c.signed.result (first_byte c.args.line.now c.in-len1-up.len_at_least)
    read.0 read.1 c.signed.ensures.text c.signed.ensures.of_tuple

pub returns-in-None-clause-none : goal.returns-in-None-clause-none
returns-in-None-clause-none c = λ w good e.
    no_tuple_after c.args.session.now.schema _ _ (none_of c.in_ok-tuple.field-0 c.in-None.is c.in_ok-tuple.ensures.none) w good
    (sym (first_byte c.args.line.now c.in-len1-up.len_at_least) ∙ e)
