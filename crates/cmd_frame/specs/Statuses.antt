-- The statuses: their numbers, which status each ending, refusal and failure has, and the fixed
-- lines.
use Rattle.std.specs.Prelude.{ℕ, List, codes}
use Rattle.base_devices.specs.declared.whole.ReadRefusal.{ReadRefusal}
use Rattle.base_devices.specs.declared.whole.ReadRefusal.TheVariants as reading
use Rattle.cmd_frame.specs.Outputs.{OutputView, Text, Refused}
use Rattle.cmd_frame.specs.declared.outputs.Ending.{Ending}
use Rattle.cmd_frame.specs.declared.outputs.Ending.TheVariants as endings
use Rattle.cmd_frame.specs.declared.outputs.Refusal.{Refusal}
use Rattle.cmd_frame.specs.declared.outputs.Refusal.TheVariants as refusals
use Rattle.cmd_frame.specs.declared.failures.Failure.{Failure}
use Rattle.cmd_frame.specs.declared.failures.Failure.TheVariants as failures
use Rattle.cmd_frame.specs.declared.statuses.Status.{Status}
use Rattle.cmd_frame.specs.declared.statuses.Status.TheVariants.{Ended, Stuck, Usage, SessionRefused, BaseViolates, ReadFault, WriteFault, OutOfMemory, TooLong, TooLarge, Refuted, QueryRefused, Damaged}

-- the number with which the program exits
abbrev pub number_of : Status → ℕ
number_of Ended = 0
number_of Stuck = 1
number_of Usage = 2
number_of SessionRefused = 3
number_of BaseViolates = 4
number_of ReadFault = 5
number_of WriteFault = 6
number_of OutOfMemory = 7
number_of TooLong = 8
number_of TooLarge = 9
number_of Refuted = 10
number_of QueryRefused = 11
number_of Damaged = 12

-- the status of a command that wrote its text
abbrev pub status_of_ending : Ending → Status
status_of_ending endings.Ended = Ended
status_of_ending endings.Stuck = Stuck
status_of_ending endings.Refuted = Refuted

-- the status of a command that refused its input
abbrev pub status_of_refusal : Refusal → Status
status_of_refusal refusals.SessionRefused = SessionRefused
status_of_refusal refusals.BaseViolates = BaseViolates
status_of_refusal refusals.TooLarge = TooLarge
status_of_refusal refusals.QueryRefused = QueryRefused
status_of_refusal refusals.Damaged = Damaged

-- the status of a command with this output
abbrev pub status_of : OutputView → Status
status_of (Text ending text) = status_of_ending ending
status_of (Refused refusal line) = status_of_refusal refusal

-- the status of a run that failed
abbrev pub status_of_failure : Failure → Status
status_of_failure failures.Usage = Usage
status_of_failure failures.ReadFault = ReadFault
status_of_failure failures.WriteFault = WriteFault
status_of_failure failures.OutOfMemory = OutOfMemory
status_of_failure failures.TooLong = TooLong

-- the line for a failure
abbrev pub line_of : Failure → List ℕ
line_of failures.Usage = codes "youtopia: usage: youtopia COMMAND [OPTIONS]\n"
line_of failures.ReadFault = codes "youtopia: read fault\n"
line_of failures.WriteFault = codes "youtopia: write fault\n"
line_of failures.OutOfMemory = codes "youtopia: out of memory\n"
line_of failures.TooLong = codes "youtopia: input longer than 16777216 bytes\n"

-- why a run fails if its input was not read to its end
abbrev pub of_read_refusal : ReadRefusal → Failure
of_read_refusal reading.ReadFault = failures.ReadFault
of_read_refusal reading.TooLong = failures.TooLong
of_read_refusal reading.Memory = failures.OutOfMemory
