-- The meaning of the program's record of a call.
use Rattle.std.specs.Prelude.{Bool}
use Rattle.base_devices.specs.declared.logs.Deed.{Deed}
use Rattle.base_devices.specs.declared.logs.Deed.TheVariants as deeds
use Rattle.base_devices.specs.declared.logs.Counted.{Counted}
use Rattle.base_devices.specs.Logs.{Call, Load, Sync, Write}

-- the call, given whether it failed
abbrev pub deed_of : Deed → Bool → Call
deed_of deeds.Load fault = Load fault
deed_of deeds.Sync fault = Sync fault
deed_of (deeds.Write at bytes) fault = Write at bytes.items fault

abbrev pub call_of : Counted → Call
call_of c = deed_of c.deed c.failed
