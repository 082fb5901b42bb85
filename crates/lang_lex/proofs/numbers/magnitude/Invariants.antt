use Rattle.std.proofs.Common.{◌≡◌, ◌-◌, ◌^◌, ◌<◌, drop}
use Rattle.std.specs.Prelude.{min}
use Rattle.def_language.specs.Numbers.{value_after}
use Rattle.lang_lex.proofs.numbers.magnitude.Given as goal

abbrev pub invariant-loop-digit : goal.invariant-loop-digit
invariant-loop-digit l = (min (value_after l.value (drop l.digit-index l.digits)) (2 ^ 64 - 1) ≡ min (value_after 0 l.digits) (2 ^ 64 - 1)) × (l.value < 2 ^ 64)
