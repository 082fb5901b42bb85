use Rattle.std.proofs.Common.{[]}
use Rattle.ws_file.specs.Files.{bytes_of, state_of}
use Rattle.ws_log.proofs.Fresh.{held, within}
use Rattle.ws_log.proofs.logs.from_gate.Goals as goal

pub from_place-requires-clause-within : goal.from_place-requires-clause-within
from_place-requires-clause-within c = within c.args.gate (bytes_of c.args.disk) c.requires.gate

pub returns-clause-held : goal.returns-clause-held
returns-clause-held c = held c.args.gate (bytes_of c.args.disk) c.args.mark.digits (state_of c.in_ok-disk.disk) c.requires.gate c.in_ok-disk.ensures.bytes c.in_ok-disk.ensures.lasts

pub returns-clause-hand : goal.returns-clause-hand
returns-clause-hand c =
    let h = held c.args.gate (bytes_of c.args.disk) c.args.mark.digits (state_of c.in_ok-disk.disk) c.requires.gate c.in_ok-disk.ensures.bytes c.in_ok-disk.ensures.lasts in
    ([], [], h.at)
