use Rattle.run_drill.proofs.Blank.{blank_is, blank_told}
use Rattle.run_drill.proofs.drills.blank.Goals as goal

pub returns-in-Ok : goal.returns-in-Ok
returns-in-Ok c = record { blank = blank_is _ c.in-Ok.ensures.ok }

pub unreachable-requires : goal.unreachable-requires
unreachable-requires c = blank_told c.in-Err-Fault.field-0 c.in-Err-Fault.field-0-0 c.in-Err-Fault.field-0-is c.in-Err-Fault.ensures.err
