-- The refusal of a session by its base.
use Rattle.std.specs.Prelude.{◌≡◌, Some}
use Rattle.cmd_frame.specs.Outputs.{Refused, view_of}
use Rattle.cmd_frame.specs.declared.outputs.Output.{Output}
use Rattle.cmd_frame.specs.declared.outputs.Refusal.TheVariants.{BaseViolates}
use Rattle.cmd_plain.specs.Base.{base_line}
use Rattle.def_language.specs.Sessions.{SessionData}
use Rattle.lang_session.specs.Base.{Violated, base_violation}

-- the output is the refusal with the violation of the base
abbrev pub IsRefusal : SessionData → Output → Type 0
IsRefusal s output = (v : Violated) × (base_violation s ≡ Some v) × (view_of output ≡ Refused BaseViolates (base_line s.relations v))
