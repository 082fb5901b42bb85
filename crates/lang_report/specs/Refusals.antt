-- Why a session is not saved.
use Rattle.std.specs.Prelude.{◌≡◌, true, length}
use Rattle.def_language.specs.Printing.{printed}
use Rattle.def_language.specs.Sessions.{SessionData}
use Rattle.lang_report.specs.declared.saving.SaveRefusal.{SaveRefusal}
use Rattle.lang_report.specs.declared.saving.SaveRefusal.TheVariants.{TooLarge, Memory}
use Rattle.lang_report.specs.Saved.{is_too_large}

-- A session is too large if it has too many tuples or bytes, and the refusal has both numbers; want of memory may come at any
-- time.
abbrev pub Refuses : SaveRefusal → SessionData → Type 0
Refuses (TooLarge tuples bytes) s = (tuples ≡ length s.base) × (bytes ≡ length (printed s)) × (is_too_large s ≡ true)
Refuses Memory s = Unit {0}
