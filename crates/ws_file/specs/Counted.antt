-- The call that a record of the program stands for.
use Rattle.std.specs.Prelude.{Bool}
use Rattle.base_devices.specs.Logs.{Call, Load, Sync, Write}
use Rattle.ws_file.specs.declared.calls.Deed.{Deed}
use Rattle.ws_file.specs.declared.calls.Deed.TheVariants as deeds
use Rattle.ws_file.specs.declared.calls.Counted.{Counted}

-- the call, once it is known whether it failed
abbrev pub deed_of : Deed → Bool → Call
deed_of deeds.Load fault = Load fault
deed_of deeds.Sync fault = Sync fault
deed_of (deeds.Write at bytes) fault = Write at bytes.items fault

abbrev pub call_of : Counted → Call
call_of c = deed_of c.deed c.failed
