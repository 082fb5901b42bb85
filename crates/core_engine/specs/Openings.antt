-- Why a core is not opened on a session.
use Rattle.std.specs.Prelude.{◌≡◌, Some}
use Rattle.def_language.specs.Sessions.{SessionData}
use Rattle.lang_session.specs.Base.{base_violation}
use Rattle.run_base.specs.Meanings.{violated_of}
use Rattle.core_engine.specs.declared.refusals.OpenRefusal.{OpenRefusal}
use Rattle.core_engine.specs.declared.refusals.OpenRefusal.TheVariants as open_

-- Why no core was opened on the session: its base violates a mapping, or memory ran out.
abbrev pub RefusesOpening : SessionData → OpenRefusal → Type 0
RefusesOpening s (open_.Violates v) = base_violation s ≡ Some (violated_of v)
RefusesOpening s open_.Memory = Unit {0}
