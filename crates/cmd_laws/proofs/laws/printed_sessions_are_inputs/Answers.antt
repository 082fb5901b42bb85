use Rattle.cmd_laws.proofs.Endings.{printed_closed}
use Rattle.def_language.specs.Printing.{printed}
use Rattle.cmd_laws.proofs.laws.printed_sessions_are_inputs.Goals as goal

pub returns : goal.returns
returns c = λ r k.
    let spells = c.sessions_are_read_again.ensures r.session k.valid in
    record { spells = spells; closed = printed_closed r.session c.words_are_read_again.ensures ((c.inputs_are_statements.ensures (printed r.session) r.session).0 spells) }
