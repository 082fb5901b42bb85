-- Laws of valid sessions: they meet the premises of the chase.
use Rattle.std.specs.Prelude.{◌≡◌, None}
use Rattle.def_chase.specs.Mappings.{AllHold}
use Rattle.def_chase.specs.Laws.{HaveNoNulls}
use Rattle.def_steps.specs.Timely.{IsTimely}
use Rattle.def_language.specs.Sessions.{SessionData}
use Rattle.def_language.specs.Checks.{rules_of}
use Rattle.def_language.specs.Validity.{IsSession}
use Rattle.lang_session.specs.Meanings.{requests_in}
use Rattle.lang_session.specs.Base.{base_violation}

-- No mapping of a valid session has a null among its constants, and no update puts a mapping in force before its time.
pub record SuitTheChase : Type 0 where
  pub no_nulls : (s : SessionData) → IsSession s → HaveNoNulls (rules_of s.mappings)
  pub timely : (s : SessionData) → IsSession s → IsTimely (rules_of s.mappings) s.base (requests_in s)

-- If the base of a valid session violates no mapping that is in force from the start, all mappings in force hold in it.
abbrev pub BaseHolds : Type 0
BaseHolds = (s : SessionData) → IsSession s → base_violation s ≡ None → AllHold (rules_of s.mappings) s.base
